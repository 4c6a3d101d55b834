-- `plan_file::file::PlanFile::week_sum` meets its contract: the loop has summed the numbers of the products below `product`. Assumes nothing.
use mathlib.Core.Path.{◌≡◌}
use Prim.Native.Nat.{◌*◌, ◌≤◌}
use Rattle.mathematics.specs.Below.{sum_below}
use Rattle.plan_file.specs.Accepted.{plan_in}
use Rattle.plan_file.specs.Tables.{product_table_of, most_of}
use Rattle.plan_file.proofs.file.PlanFile.week_sum.Given as goal

abbrev pub invariant-loop-product : goal.invariant-loop-product
invariant-loop-product l =
    (l.sum ≡ sum_below l.product (product_table_of l.table (plan_in l.self) l.week)) × (l.sum ≤ l.product * most_of l.table)
