-- What the call says lies within its output.
use Rattle.std.proofs.Common.{arith}
use Rattle.files.proofs.run_call.Goals as goal

pub deliver-requires : goal.deliver-requires
deliver-requires g c = λ n e. let within = c.requires.within _ _ _ _ _ c.call-written.ensures n e in grind arith
