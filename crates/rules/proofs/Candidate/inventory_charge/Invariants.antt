-- `rules::Candidate::inventory_charge` meets its contract: the loop has added the products below `product`. Assumes nothing.
use mathlib.Core.Path.{◌≡◌}
use Prim.Native.Nat.{◌*◌, ◌≤◌}
use Rattle.mathematics.specs.Below.{sum_below}
use Rattle.sections.specs.Limits.{most_unit_cost}
use Rattle.plant_file.specs.Accepted.{plant_in}
use Rattle.plan_file.specs.Accepted.{plan_in}
use Rattle.rules.proofs.Candidate.inventory_charge.Given as goal

abbrev pub invariant-loop-product : goal.invariant-loop-product
invariant-loop-product l =
    (l.sum ≡ sum_below l.product (λ i. (plant_in l.self.plant).inventory_cost i * (plan_in l.self.plan).inventory l.week i))
    × (l.sum ≤ l.product * (most_unit_cost * 4294967295))
