-- `report::write_field` meets its contract. Assumes nothing.
use native.Mathlib.Omega.{arith}
use Rattle.report.proofs.StoredText.{stored_both}
use Rattle.report.proofs.write_field.Goals as goal

pub returns : goal.returns
returns c =
    let a = c.args in
    let both = stored_both {s = a.out.now} (omega arith) c.write_decimal-p.ensures c.write_byte.ensures in
    (both, omega arith)
