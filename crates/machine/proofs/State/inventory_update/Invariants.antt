-- `machine::State::inventory_update` meets its contract: the loop has tried, stored and added the products below `product`. Assumes nothing.
use Prim.Native.Nat.{◌*◌, ◌≤◌}
use mathlib.Core.Path.{◌≡◌}
use mathlib.Core.Bool.{true}
use Rattle.mathematics.specs.Below.{sum_below, all_below}
use Rattle.plant_file.specs.Accepted.{plant_in}
use Rattle.machine.specs.State.{update_row}
use Rattle.machine.specs.Input.{week_in}
use Rattle.machine.proofs.ProductTables.{inventory_at, in_stock_at, kept_at, new_charge_at}
use Rattle.machine.proofs.State.inventory_update.Given as goal

abbrev pub invariant-loop-product : goal.invariant-loop-product
invariant-loop-product l =
    let P = plant_in l.input.plant in
    let v = week_in l.input l.week in
    let before = l.initial.inventory in
    (l.inventory ≡ update_row 0 l.product (inventory_at P v) before)
    × (all_below l.product (in_stock_at P v before) ≡ true)
    × (l.kept ≡ all_below l.product (kept_at P v before))
    × (l.cost ≡ sum_below l.product (new_charge_at P v before))
    × (l.cost ≤ l.product * 2160000000000000)
