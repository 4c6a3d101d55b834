-- `machine::opening_row` meets its contract: the loop has stored the products below `product`. Assumes nothing.
use native.Mathlib.Omega.{arith}
use Rattle.machine.proofs.Plants.{few}
use Rattle.machine.proofs.opening_row.Goals as goal

pub bounds-row-product : goal.bounds-row-product
bounds-row-product c = omega (arith, (few c.args.plant).products)
