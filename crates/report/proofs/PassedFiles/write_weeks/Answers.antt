-- `report::PassedFiles::write_weeks` meets its contract: the loop has stored the lines of the weeks before `week`. Assumes nothing.
use borrow.Author.Rules.{rules}
use native.Mathlib.Omega.{arith}
use native.Mathlib.Numerals.{add-one}
use Rattle.report.specs.Files.{week_in}
use Rattle.report.proofs.StoredText.{stored_both}
use Rattle.report.proofs.WeekText.{join_room}
use Rattle.report.proofs.PassedFiles.write_weeks.Goals as goal

pub write_week-p-requires : goal.write_week-p-requires
write_week-p-requires c =
    let a = c.args in
    let b = c.loop-week in
    (search rules, omega (arith, b.invariant.1.end, join_room a.self.files.plan.shape.weeks (week_in a.self) b.week (omega arith)))

pub loop-week-preserved : goal.loop-week-preserved
loop-week-preserved c =
    let b = c.loop-week in
    (search rules, rw (add-one b.week) (stored_both (omega arith) b.invariant.1 c.write_week-p.ensures))
