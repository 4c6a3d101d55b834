-- `slot_file::SlotFile::slot_row` meets its contract: the loop has stored the slots below `k`. Assumes nothing.
use Prim.Native.Nat.{◌+◌}
use mathlib.Core.Path.{◌≡◌}
use lib.ListN.{length, take}
use Rattle.mathematics.specs.Below.{list_below}
use Rattle.slot_file.specs.Slots.{slot_at}
use Rattle.slot_file.specs.Row.{slots_in}
use Rattle.slot_file.proofs.SlotFile.slot_row.Given as goal

abbrev pub invariant-loop-k : goal.invariant-loop-k
invariant-loop-k l = (length l.row ≡ 16) × (slots_in (take l.k l.row) ≡ list_below l.k (λ j. slot_at l.self.bytes.now (l.first + j)))
