-- EQUAL SLOT FILES: files of the same numbers are the same bytes, and good files are the same bytes just where their numbers are the same.
-- Assumes nothing.
use Prim.Native.Nat.{ℕ}
use mathlib.Core.Path.{◌≡◌, sym, ap, ◌∙◌}
use mathlib.Core.Logic.{◌↔◌}
use mathlib.Core.List.{List, [], ◌∷◌}
use lib.ListN.{length}
use Rattle.mathematics.proofs.Join.{join_ext}
use Rattle.numbers.specs.Number.{Bytes}
use Rattle.numbers.proofs.Number.{encode_ext}
use Rattle.contents.specs.File.{file_of}
use Rattle.sections.specs.declared.Shape.{Shape}
use Rattle.std.specs.Prelude.{Ok}
use Rattle.slot_file.specs.Slots.{Slots, slots_of, SameSlots}
use Rattle.slot_file.specs.Form.{slot_form}
use Rattle.slot_file.specs.File.{slot_bytes, slot_file, slot_bodies}
use Rattle.sections.proofs.Bodies.{cube_ext}
use Rattle.slot_file.proofs.SlotsIsFile.{slots_is_file}

pub same_file : (f : Shape) (x y : Slots) → SameSlots f x y → slot_file f x ≡ slot_file f y
unfolding slot_file slot_bodies
same_file f x y h =
    let counts = encode_ext 1 f.weeks _ _ (λ w l. ap length (h.week w l)) in
    let slots = join_ext f.weeks _ _ (λ w l. ap slot_bytes (h.week w l)) in
    let sales = cube_ext 4 f.customers f.products f.weeks x.sales y.sales h.sales in
    ap (file_of 3 41) (λ u. counts u ∷ slots u ∷ sales u ∷ [])

-- the numbers of equal bytes
pub same_slots : (f : Shape) (s t : List ℕ) → s ≡ t → SameSlots f (slots_of f s) (slots_of f t)
same_slots f s t e =
    record { week = λ w l. ap (λ (q : List ℕ). (slots_of f q).line.week w) e; sales = λ c i w p q r. ap (λ (q : List ℕ). (slots_of f q).sales c i w) e }

pub slots_equal : (f : Shape) (s t : List ℕ) → Bytes s → Bytes t → slot_form f s ≡ Ok f → slot_form f t ≡ Ok f
    → (s ≡ t) ↔ SameSlots f (slots_of f s) (slots_of f t)
slots_equal f s t a b p q = (
  same_slots f s t,
  λ h. slots_is_file f s a p ∙ (same_file f (slots_of f s) (slots_of f t) h ∙ sym (slots_is_file f t b q)),
)
