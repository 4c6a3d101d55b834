-- `plan_file::file::PlanFile::sold` meets its contract. Assumes nothing.
use native.Mathlib.Omega.{arith}
use mathlib.Core.Path.{refl}
use Rattle.plan_file.specs.Plan.{plan_of}
use Rattle.plan_file.proofs.Access.{pairs_held}
use Rattle.plan_file.proofs.file.PlanFile.sold.Goals as goal

pub customer_sum-requires : goal.customer_sum-requires
customer_sum-requires c =
    let p = c.args.self in
    (pairs_held p.shape p.bytes.now p.accepted 8 (omega arith) refl, c.requires.1, c.requires.0)

pub returns : goal.returns
unfolding plan_of
returns c = c.customer_sum.ensures
