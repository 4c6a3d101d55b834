-- The slots of a file, stored one after the other in an array, and where those of a week stand. Assumes nothing.
use Prim.Native.Nat.{ℕ, zero, suc, ◌+◌, ◌≤◌, ◌<◌}
use mathlib.Core.Path.{◌≡◌, refl, sym, ap, ◌∙◌}
use mathlib.Core.List.{List, [], ◌∷◌, ◌++◌, map-append}
use native.Mathlib.Omega.{arith}
use native.Mathlib.Numerals.{add-one}
use lib.ListN.{length, get_or, set, take}
use lib.Seq.{take-suc-set}
use Rattle.mathematics.specs.Below.{list_below}
use Rattle.sections.specs.declared.Shape.{Shape}
use Rattle.slot_file.specs.Slots.{Slot as FileSlot, no_slot, slot_count, slot_at, slots_before, slots_of}
use Rattle.slot_file.specs.declared.Slot.{Slot}
use Rattle.slot_file.specs.declared.WeekRow.{WeekRow}
use Rattle.slot_file.specs.Row.{slot_of, slots_in}
use Rattle.slot_file.proofs.SlotPlaces.{slots_held}
use Rattle.slot_file.proofs.AcceptedFile.{good, inside}
use Rattle.slot_file.proofs.SlotReads.{week_slot, slot_below, week_below}

list_next : (n : ℕ) (g : ℕ → FileSlot) → list_below (suc n) g ≡ list_below n g ++ (g n ∷ [])
list_next zero g = refl
list_next (suc n) g = ap (λ (xs : List FileSlot). g 0 ∷ xs) (list_next n (λ k. g (suc k)))

pub slot_stored : (row : List Slot) (k : ℕ) (t : Slot) (g : ℕ → FileSlot) → k < length row → slots_in (take k row) ≡ list_below k g → slot_of t ≡ g k
    → slots_in (take (k + 1) (set row k t)) ≡ list_below (k + 1) g
slot_stored row k t g l h e = rw (add-one, take-suc-set row k t l, map-append slot_of (take k row) (t ∷ []), h, e, list_next k g)

-- a slot, by its numbers
pub slot_eta : {p m : ℕ} (x : FileSlot) → p ≡ x.product → m ≡ x.minutes → ◌≡◌ {A = FileSlot} (record { product = p; minutes = m }) x
slot_eta x e f = rw (e, f)

-- ---- where a week's slots stand
-- the slots before the next week
pub before_next : (s : List ℕ) (w : ℕ) → slots_before s (suc w) ≡ slots_before s w + slot_count s w
unfolding slots_before
before_next s w = refl

module _ (row : WeekRow) (l : row.week < row.file.shape.weeks) where
  abbrev f : Shape
  f = row.file.shape

  abbrev s : List ℕ
  s = row.file.bytes.now

  pub row_end : row.first + row.count ≡ slots_before s (row.week + 1)
  row_end = rw add-one (omega (arith, before_next s row.week, row.begins, row.counted l))

  pub row_end_held : row.first + row.count ≤ length s
  row_end_held =
      omega (arith, row.begins, row.counted l, week_below s f.weeks row.week l, slots_held f _ s (good row.file).laid)

  module _ (k : ℕ) (m : k < row.count) where
    -- slot k is one of all, and lies within the file
    pub row_slot_known : row.first + k < slots_before s f.weeks
    row_slot_known = omega (arith, row.begins, slot_below s f.weeks row.week k l (omega (arith, row.counted l)))

    pub row_slot_held : row.first + k ≤ length s
    row_slot_held = omega (arith, (inside row.file (row.first + k) row_slot_known).1)

    pub row_slot_is : slot_at s (row.first + k) ≡ get_or ((slots_of f s).line.week row.week) k no_slot
    row_slot_is =
        ap (λ (n : ℕ). slot_at s (n + k)) row.begins ∙ sym (week_slot f s row.week k no_slot (omega (arith, row.counted l)))
