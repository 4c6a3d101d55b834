-- What a slot file that is accepted holds: room for the sections that its methods read. Assumes nothing.
use Prim.Native.Nat.{ℕ, ◌+◌, ◌*◌, ◌≤◌, ◌<◌}
use native.Mathlib.Omega.{arith}
use lib.ListN.{length}
use Rattle.contents.specs.Contents.{offset, Inside}
use Rattle.sections.specs.Section.{Holds}
use Rattle.slot_file.specs.Slots.{slots_before, slots_of, SlotsFit}
use Rattle.slot_file.specs.declared.SlotFile.{SlotFile}
use Rattle.slot_file.proofs.SlotPlaces.{counts_held, slots_held, sales_held}
use Rattle.slot_file.proofs.SlotReads.{SlotGood, slot_good, slots_fit}

module _ (file : SlotFile) where
  pub good : SlotGood file.shape file.bytes.now
  good = slot_good file.shape file.shape file.bytes.now file.accepted

  -- the count of a week, and those of the weeks before
  pub count_inside : (w : ℕ) → w < file.shape.weeks → Inside file.bytes.now 0 1 w
  count_inside w l =
      let h = counts_held file.shape _ file.bytes.now good.laid in
      record { width = h.width; listed = h.listed; few = h.few; within = omega (arith, h.fits, l) }

  pub counts_before : (w : ℕ) → w ≤ file.shape.weeks → Holds file.bytes.now 0 1 w
  counts_before w l =
      let h = counts_held file.shape _ file.bytes.now good.laid in
      record { width = h.width; listed = h.listed; few = h.few; fits = omega (arith, h.fits, l) }

  -- slot j of all
  pub inside : (j : ℕ) → j < slots_before file.bytes.now file.shape.weeks
      → (29 ≤ length file.bytes.now) × (offset file.bytes.now 1 + 3 * j + 3 ≤ length file.bytes.now)
  inside j l = (good.laid.long, omega (arith, slots_held file.shape _ file.bytes.now good.laid))

  pub sales : Holds file.bytes.now 2 4 (file.shape.customers * file.shape.products * file.shape.weeks)
  sales = sales_held file.shape _ file.bytes.now good.laid

  -- its numbers fit their sections
  pub fits : SlotsFit file.shape (slots_of file.shape file.bytes.now)
  fits = slots_fit file.shape file.bytes.now file.accepted file.octets
