-- `plan_file::file::PlanFile::arc_sums` meets its contract: the loop has added the rows below `from`. Assumes nothing.
use mathlib.Core.Path.{◌≡◌}
use Prim.Native.Nat.{ℕ, ◌<◌, ◌≤◌}
use lib.ListN.{length, get_or}
use Rattle.mathematics.specs.Below.{sum_below}
use Rattle.plan_file.specs.Accepted.{plan_in}
use Rattle.plan_file.specs.Tables.{changeover_table_of}
use Rattle.plan_file.proofs.file.PlanFile.arc_sums.Given as goal

abbrev pub invariant-loop-from : goal.invariant-loop-from
invariant-loop-from l =
    let marks = changeover_table_of l.table (plan_in l.self).line l.week in
    (length l.into ≡ 16) × (length l.out ≡ 16)
    × ((j : ℕ) → j < l.self.shape.products → get_or l.into j 0 ≡ sum_below l.from (λ i. marks i j))
    × ((j : ℕ) → j < l.self.shape.products → get_or l.into j 0 ≤ l.from)
    × ((i : ℕ) → i < l.from → get_or l.out i 0 ≡ sum_below l.self.shape.products (marks i))
