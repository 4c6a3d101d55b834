-- `plan_file::body_lengths` meets its contract. Assumes nothing.
use native.Mathlib.Omega.{arith}
use Rattle.plan_file.proofs.Lengths.{listable}
use Rattle.plan_file.proofs.body_lengths.Goals as goal

pub invariant_of-result : goal.invariant_of-result
invariant_of-result c =
    record { few = omega arith; listable = rw c.lengths_of.ensures (listable c.args.f (omega arith, omega arith, omega arith)) }
