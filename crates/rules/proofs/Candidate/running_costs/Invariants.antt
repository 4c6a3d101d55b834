-- `rules::Candidate::running_costs` meets its contract: the loop has added the weeks below `week`. Assumes nothing.
use mathlib.Core.Path.{◌≡◌}
use Prim.Native.Nat.{◌+◌, ◌*◌, ◌^◌, ◌≤◌}
use Rattle.mathematics.specs.Below.{sum_below}
use Rattle.plant_file.specs.Accepted.{plant_in}
use Rattle.plan_file.specs.Accepted.{plan_in}
use Rattle.rules.specs.Rules.{changeover_charge_in, inventory_charge_in}
use Rattle.rules.proofs.Candidate.running_costs.Given as goal

abbrev pub invariant-loop-week : goal.invariant-loop-week
invariant-loop-week l =
    let p = plant_in l.self.plant in
    let x = plan_in l.self.plan in
    (l.sum ≡ sum_below l.week (changeover_charge_in p x) + sum_below l.week (inventory_charge_in p x)) × (l.sum ≤ l.week * 2 ^ 57)
