-- `machine::opening_table` meets its contract: the loop has stored the pairs below `pair`. Assumes nothing.
use native.Mathlib.Omega.{arith}
use Rattle.machine.proofs.Plants.{few}
use Rattle.machine.proofs.opening_table.Goals as goal

pub bounds-table-pair : goal.bounds-table-pair
bounds-table-pair c = omega (arith, (few c.args.plant).pairs, c.area-pair-end.ensures.0)
