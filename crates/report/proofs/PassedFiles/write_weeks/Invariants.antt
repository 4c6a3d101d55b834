-- `report::PassedFiles::write_weeks` meets its contract: the loop has stored the lines of the weeks before `week`. Assumes nothing.
use mathlib.Core.Path.{◌≡◌}
use lib.ListN.{length}
use Rattle.mathematics.specs.Below.{join_below}
use Rattle.report.specs.Stored.{Stored}
use Rattle.report.specs.Files.{week_in}
use Rattle.report.proofs.PassedFiles.write_weeks.Given as goal

abbrev pub invariant-loop-week : goal.invariant-loop-week
invariant-loop-week l =
    (length l.out ≡ length l.initial.out) × Stored l.initial.out l.at (join_below l.week (week_in l.self)) l.p l.out
