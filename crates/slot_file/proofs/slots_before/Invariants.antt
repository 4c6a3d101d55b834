-- `slot_file::slots_before` meets its contract: the loop has added the counts of the weeks below `i`. Assumes nothing.
use mathlib.Core.Path.{◌≡◌}
use Prim.Native.Nat.{◌≤◌, ◌*◌}
use Rattle.slot_file.specs.Slots.{slots_before}
use Rattle.slot_file.proofs.slots_before.Given as goal

abbrev pub invariant-loop-i : goal.invariant-loop-i
invariant-loop-i l = (l.sum ≡ slots_before l.s l.i) × (l.sum ≤ l.i * 255)
