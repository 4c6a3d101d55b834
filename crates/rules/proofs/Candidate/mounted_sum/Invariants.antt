-- `rules::Candidate::mounted_sum` meets its contract: the loop has added the marks below `product`. Assumes nothing.
use mathlib.Core.Path.{◌≡◌}
use Prim.Native.Nat.{◌≤◌}
use Rattle.mathematics.specs.Below.{sum_below}
use Rattle.plant_file.specs.Accepted.{plant_in}
use Rattle.plan_file.specs.Accepted.{plan_in}
use Rattle.rules.specs.Rules.{mounted_after}
use Rattle.rules.proofs.Candidate.mounted_sum.Given as goal

abbrev pub invariant-loop-product : goal.invariant-loop-product
invariant-loop-product l =
    (l.sum ≡ sum_below l.product (mounted_after (plant_in l.self.plant).line (plan_in l.self.plan).line l.weeks)) × (l.sum ≤ l.product)
