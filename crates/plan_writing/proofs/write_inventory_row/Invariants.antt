-- `plan_writing::write_inventory_row` meets its contract: the loop has stored the products below `i`. Assumes nothing.
use mathlib.Core.Path.{◌≡◌}
use Prim.Native.Nat.{ℕ, ◌-◌, ◌≤◌}
use lib.ListN.{length, get_or}
use Rattle.numbers.specs.Number.{encode, store}
use Rattle.plan_writing.specs.Bodies.{Shows, sold_in}
use Rattle.plan_writing.proofs.write_inventory_row.Given as goal

abbrev pub invariant-loop-i : goal.invariant-loop-i
invariant-loop-i l =
    let left : ℕ → ℕ = λ j. get_or l.initial.row j 0 - sold_in l.slots.shape l.slots.bytes.now l.week j in
    (length l.out ≡ length l.initial.out) × (length l.row ≡ length l.initial.row)
    × (l.out ≡ store l.initial.out 0 (encode 4 l.i left))
    × Shows l.i left l.row
    × ((j : ℕ) → l.i ≤ j → get_or l.row j 0 ≡ get_or l.initial.row j 0)
