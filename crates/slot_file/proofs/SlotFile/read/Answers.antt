-- `slot_file::SlotFile::read` meets its contract. Assumes nothing.
use borrow.Author.Rules.{rules}
use native.Mathlib.Omega.{arith}
use mathlib.Core.Path.{sym, ◌∙◌}
use Rattle.slot_file.proofs.SlotReads.{slot_shape}
use Rattle.slot_file.proofs.SlotFile.read.Goals as goal

-- the shape of an accepted file is the one that it was read for
pub invariant_of-result : goal.invariant_of-result
invariant_of-result c =
    let e = sym c.slot_form.ensures ∙ c.in_ok-slot_form.was in
    let good = rw (slot_shape c.args.shape c.in_ok-slot_form.field-0 c.args.bytes.now e) at e in
    record { accepted = grind arith; octets = search rules }
