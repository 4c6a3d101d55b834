-- `machine::opening_table` meets its contract: the loop has stored the pairs below `pair`. Assumes nothing.
use Prim.Native.Nat.{◌/◌, ◌%◌}
use mathlib.Core.Path.{◌≡◌}
use lib.ListN.{replicate}
use Rattle.plant_file.specs.Accepted.{plant_in}
use Rattle.machine.specs.State.{update_row}
use Rattle.machine.proofs.opening_table.Given as goal

abbrev pub invariant-loop-pair : goal.invariant-loop-pair
invariant-loop-pair l =
    l.table ≡ update_row 0 l.pair (λ k _. let p = plant_in l.plant in p.opening_backlog (k / p.products) (k % p.products)) (replicate 128 0)
