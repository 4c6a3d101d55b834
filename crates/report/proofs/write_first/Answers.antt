-- `report::write_first` meets its contract. Assumes nothing.
use borrow.Author.Rules.{rules}
use mathlib.Core.Path.{◌∙◌}
use native.Mathlib.Omega.{arith}
use mir.Syntax.{w64}
use mir.Val.{of_z, to_z}
use mir.ValLaws.{to_z-of_z}
use Rattle.report.proofs.Decimal.{decimal_most}
use Rattle.report.proofs.StoredText.{stored_both}
use Rattle.report.proofs.FirstLine.{signed_most, passed_line, refused_line}
use Rattle.report.proofs.write_first.Goals as goal

pub write_signed-q-requires : goal.write_signed-q-requires
write_signed-q-requires c = omega (arith, c.write_bytes-p.ensures.end, signed_most (to_z w64 (of_z w64 c.in-Ok.profit.0)))

pub write_byte-requires : goal.write_byte-requires
write_byte-requires c =
    omega (arith, c.write_signed-q.ensures.end, c.write_bytes-p.ensures.end, signed_most (to_z w64 (of_z w64 c.in-Ok.profit.0)))

pub write_field-requires : goal.write_field-requires
write_field-requires c =
    omega (arith, c.write_bytes-p-in-Err.ensures.end, decimal_most c.from.result)

pub returns-in-Ok : goal.returns-in-Ok
returns-in-Ok c =
    let w = c.write_signed-q in
    let out = c.args.out.now in
    let signed = rw (to_z-of_z w64 c.in-Ok.profit.0 (record { sfits = search rules })) at w.ensures in
    let both = stored_both {s = out} (omega arith) c.write_bytes-p.ensures signed in
    rw (c.in-Ok.is, ← passed_line c.in-Ok.profit) (stored_both (omega arith) both c.write_byte.ensures)

pub returns-in-Err : goal.returns-in-Err
returns-in-Err c =
    let out = c.args.out.now in
    let field = rw (c.from.ensures ∙ c.number.ensures) at c.write_field.ensures.0 in
    rw (c.in-Err.is, ← refused_line c.in-Err.refusal) (stored_both {s = out} (omega arith) c.write_bytes-p-in-Err.ensures field)
