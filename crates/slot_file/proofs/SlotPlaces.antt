-- Where the bodies of a slot file begin, and what they have room for. Assumes nothing.
use Prim.Native.Nat.{ℕ, ◌+◌, ◌*◌, ◌≤◌, ◌<◌}
use mathlib.Core.Path.{◌≡◌}
use mathlib.Core.Bool.{false}
use mathlib.Core.List.{List, [], ◌∷◌}
use native.Mathlib.Omega.{arith}
use lib.ListN.{length, get_or}
use borrow.Author.Tests.{ne_eqb}
use Rattle.contents.specs.Contents.{offset, extent, sized}
use Rattle.contents.specs.File.{start, Listable}
use Rattle.sections.specs.Section.{Holds, Laid}
use Rattle.sections.specs.declared.Shape.{Shape}
use Rattle.sections.proofs.Rows.{width1, width4, laid_holds}
use Rattle.slot_file.specs.Slots.{slot_at}
use Rattle.slot_file.specs.Form.{slot_lengths}

-- the contents have room for the sections of a slot file
pub slot_listable : (f : Shape) (total : ℕ) → total ≤ 65025 → f.weeks < 256 → f.customers * f.products * f.weeks ≤ 16581375
    → Listable 41 (slot_lengths f total)
unfolding start
slot_listable f total l w v = record { numbers = omega arith; offsets = omega arith }

-- the byte of a slot's product
pub product_at_lem : (s : List ℕ) (j at : ℕ) → at ≡ offset s 1 + 3 * j → get_or s at 0 ≡ (slot_at s j).product
unfolding slot_at
product_at_lem s j at e = rw e (omega arith)

-- the lengths, however their numbers came about
module _ (f : Shape) (total : ℕ) {weeks slots sales : ℕ} (a : weeks ≡ f.weeks) (b : slots ≡ 3 * total)
    (c : sales ≡ 4 * (f.customers * f.products * f.weeks)) where
  pub lengths_known : weeks ∷ slots ∷ sales ∷ [] ≡ slot_lengths f total
  lengths_known =
      let w : weeks ≡ 1 * (1 * f.weeks) = omega (arith, a) in let s : slots ≡ 3 * (1 * total) = omega (arith, b) in (λ u. w u ∷ s u ∷ c u ∷ [])

  pub lengths_listable : total ≤ 65025 → f.weeks < 256 → f.customers * f.products * f.weeks ≤ 16581375 → Listable 41 (weeks ∷ slots ∷ sales ∷ [])
  lengths_listable l w v = rw lengths_known (slot_listable f total l w v)

-- section 41 has room for its counts, 42 for its slots, 43 for its sales
module _ (f : Shape) (total : ℕ) (s : List ℕ) (z : Laid s (slot_lengths f total)) where
  pub counts_held : Holds s 0 1 f.weeks
  counts_held = laid_holds z 0 (omega arith) 1 f.weeks width1 (omega arith)

  pub slots_held : offset s 1 + 3 * total ≤ length s
  slots_held = omega (arith, (laid_holds z 1 (omega arith) 1 (3 * total) width1 (omega arith)).fits)

  pub sales_held : Holds s 2 4 (f.customers * f.products * f.weeks)
  sales_held = laid_holds z 2 (omega arith) 4 (f.customers * f.products * f.weeks) width4 (omega arith)

-- where section 41 has another length, row 23 turns the file down
pub week_bytes : (f : Shape) (total : ℕ) (s : List ℕ) → (extent s 0 ≡ f.weeks → ⊥) → sized s (slot_lengths f total) ≡ false
unfolding sized
week_bytes f total s h = simp (ne_eqb (extent s 0) (1 * (1 * f.weeks)) (λ e. h (omega arith)))
