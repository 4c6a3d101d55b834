-- `plan_file::file::PlanFile::add_row` meets its contract: the loop has added the marks to the products below `to`. Assumes nothing.
use mathlib.Core.Path.{◌≡◌}
use Prim.Native.Nat.{ℕ, ◌+◌, ◌<◌, ◌≤◌}
use lib.ListN.{length, get_or}
use Rattle.mathematics.specs.Below.{sum_below}
use Rattle.plan_file.specs.Accepted.{plan_in}
use Rattle.plan_file.specs.Tables.{changeover_table_of}
use Rattle.plan_file.proofs.file.PlanFile.add_row.Given as goal

abbrev pub invariant-loop-to : goal.invariant-loop-to
invariant-loop-to l =
    let marks = changeover_table_of l.table (plan_in l.self).line l.week l.from in
    (length l.into ≡ 16)
    × ((j : ℕ) → j < l.to → get_or l.into j 0 ≡ get_or l.initial.into j 0 + marks j)
    × ((j : ℕ) → l.to ≤ j → get_or l.into j 0 ≡ get_or l.initial.into j 0)
    × ((j : ℕ) → j < l.to → marks j < 2)
    × (l.sum ≡ sum_below l.to marks)
    × (l.sum ≤ l.to)
