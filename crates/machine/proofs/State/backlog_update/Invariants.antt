-- `machine::State::backlog_update` meets its contract: the loop has tried, stored and added the pairs below `pair`. Assumes nothing.
use Prim.Native.Nat.{◌*◌, ◌^◌, ◌≤◌}
use mathlib.Core.Path.{◌≡◌}
use mathlib.Core.Bool.{true}
use Rattle.mathematics.specs.Below.{sum_below, all_below}
use Rattle.sections.specs.Limits.{most_unit_cost, most_backlog}
use Rattle.plant_file.specs.Accepted.{plant_in}
use Rattle.machine.specs.State.{update_row}
use Rattle.machine.specs.Input.{week_in}
use Rattle.machine.proofs.PairTables.{due_at, backlog_at, revenue_at, new_charge_at}
use Rattle.machine.proofs.State.backlog_update.Given as goal

abbrev pub invariant-loop-pair : goal.invariant-loop-pair
invariant-loop-pair l =
    let P = plant_in l.input.plant in
    let v = week_in l.input l.week in
    let before = l.initial.backlog in
    (l.backlog ≡ update_row 0 l.pair (backlog_at P.products v) before)
    × (all_below l.pair (due_at P.products v before) ≡ true)
    × (l.revenue ≡ sum_below l.pair (revenue_at P.products P v))
    × (l.revenue ≤ l.pair * (most_unit_cost * 2 ^ 32))
    × (l.cost ≡ sum_below l.pair (new_charge_at P.products P v before))
    × (l.cost ≤ l.pair * (most_unit_cost * most_backlog))
