-- `slot_file::WeekRow::slot_in` meets its contract. Assumes nothing.
use native.Mathlib.Omega.{arith}
use Rattle.slot_file.proofs.SlotRows.{row_slot_known, row_slot_held, row_slot_is}
use Rattle.slot_file.proofs.WeekRow.slot_in.Goals as goal

pub returns : goal.returns
returns c =
    let a = c.args in
    (row_slot_is a.self c.requires.0 a.k c.requires.1, row_slot_known a.self c.requires.0 a.k c.requires.1)

pub overflow_add-result : goal.overflow_add-result
overflow_add-result c = omega (arith, row_slot_held c.args.self c.requires.0 c.args.k c.requires.1)
