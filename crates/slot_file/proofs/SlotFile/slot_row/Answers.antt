-- `slot_file::SlotFile::slot_row` meets its contract: the loop has stored the slots below `k`. Assumes nothing.
use Prim.Native.Nat.{ℕ, ◌+◌, ◌<◌}
use borrow.Author.Rules.{rules}
use native.Mathlib.Omega.{arith}
use lib.ListN.{length, length-set}
use mathlib.Core.Path.{◌∙◌}
use Rattle.slot_file.specs.Slots.{Slot, slot_at}
use Rattle.slot_file.proofs.AcceptedFile.{inside}
use Rattle.slot_file.proofs.SlotRows.{slot_eta, slot_stored}
use Rattle.slot_file.proofs.SlotFile.slot_row.Goals as goal

pub loop-k-preserved : goal.loop-k-preserved
loop-k-preserved c =
    let turn = c.loop-k in
    let slot : ℕ → Slot = λ j. slot_at c.args.self.bytes.now (c.args.first + j) in
    let place : turn.k < length turn.row = search rules in
    let read = slot_eta (slot turn.k) c.slot_product-product.ensures.0 c.slot_minutes.ensures.0 in
    (length-set turn.row _ _ ∙ turn.invariant.0, slot_stored turn.row turn.k _ slot place turn.invariant.1 read)

pub overflow_add-j : goal.overflow_add-j
overflow_add-j c =
    let j = c.args.first + c.loop-k.k in
    omega (arith, (inside c.args.self j (search rules)).1)
