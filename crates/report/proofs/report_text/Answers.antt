-- `report::report_text` meets its contract. Assumes nothing.
use native.Mathlib.Omega.{arith}
use mathlib.Core.Path.{◌≡◌}
use mathlib.Core.List.{append-nil}
use Rattle.std.specs.Prelude.{Err, Ok}
use Rattle.calls.specs.Check.{check_of}
use Rattle.report.specs.Report.{first_line, report_text}
use Rattle.report.proofs.StoredText.{stored_both}
use Rattle.report.proofs.FirstLine.{first_most}
use Rattle.report.proofs.PassedText.{files_text}
use Rattle.report.proofs.report_text.Goals as goal

pub invariant_of-write_weeks : goal.invariant_of-write_weeks
invariant_of-write_weeks c = record { ordered = (files_text c.in-Ok.passed).ordered }

pub write_weeks-requires : goal.write_weeks-requires
write_weeks-requires c =
    omega (arith, (files_text c.in-Ok.passed).most, c.write_first-at.ensures.end, first_most (Ok c.in-Ok.passed.profit))

pub returns-in-Err : goal.returns-in-Err
unfolding report_text check_of
returns-in-Err c =
    let n = c.in-Err.refusal in
    let first = c.write_first.ensures in
    rw (c.in-Err.ensures, append-nil (first_line (Err n))) (
      omega (arith, first.end, first_most (Err n)),
      omega (arith, first.end),
      first.output,
    )

-- the files have the bytes of the call, and the plan the shape of the plant
pub returns-in-Ok : goal.returns-in-Ok
unfolding report_text check_of
returns-in-Ok c =
    let x = c.in-Ok.passed in
    let e = c.in-Ok.ensures in
    let text = files_text x in
    let first = c.write_first-at.ensures in
    let both = stored_both {s = c.args.out.now} (omega arith) first c.write_weeks.ensures in
    rw (e.2, ← e.0, ← e.1, ← x.files.same, ← text.lines) (
      omega (arith, c.write_weeks.ensures.end, text.most, first.end, first_most (Ok x.profit)),
      omega (arith, both.end),
      both.output,
    )
