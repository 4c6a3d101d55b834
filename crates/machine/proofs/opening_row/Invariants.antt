-- `machine::opening_row` meets its contract: the loop has stored the products below `product`. Assumes nothing.
use mathlib.Core.Path.{◌≡◌}
use lib.ListN.{replicate}
use Rattle.plant_file.specs.Accepted.{plant_in}
use Rattle.machine.specs.State.{update_row}
use Rattle.machine.proofs.opening_row.Given as goal

abbrev pub invariant-loop-product : goal.invariant-loop-product
invariant-loop-product l = l.row ≡ update_row 0 l.product (λ i _. (plant_in l.plant).opening_inventory i) (replicate 16 0)
