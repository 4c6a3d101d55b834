-- What a slot file that passes its rows holds: the rows as facts, and the numbers of `slots_of` within their ranges. Assumes nothing.
use Rattle.sections.specs.Rows.{Form}
use Prim.Native.Nat.{ℕ, suc, ◌+◌, ◌*◌, ◌≤◌, ◌<◌, ◌^◌}
use mathlib.Core.Path.{◌≡◌, refl}
use mathlib.Core.Bool.{Bool, true, false}
use mathlib.Core.List.{List}
use native.Mathlib.Omega.{arith}
use native.Mathlib.Nat.{zero-add}
use lib.ListN.{length, get_or}
use lib.Dec.{ltb}
use borrow.Author.Tests.{ltb-true, lt-ltb}
use Rattle.mathematics.specs.Below.{list_below}
use Rattle.mathematics.proofs.Below.{and_both, both_and, all_each, each_all, at_within, sum_prefix}
use Rattle.numbers.specs.Number.{Bytes, encode}
use Rattle.numbers.proofs.Number.{number_below}
use Rattle.contents.specs.Contents.{cell, headed, placed, sized}
use Rattle.contents.proofs.Facts.{Headed, headed_facts}
use Rattle.sections.specs.Section.{in_range, Laid, cube}
use Rattle.sections.specs.declared.Shape.{Shape}
use Rattle.std.specs.Prelude.{Err, Ok}
use Rattle.sections.specs.Rows.{row}
use Rattle.sections.proofs.Tables.{range_first, cube_flat}
use Rattle.sections.proofs.Rows.{row_good}
use Rattle.slot_file.specs.Slots.{Slot, no_slot, slot_count, slot_at, slots_before, slots_of, WeekFormed, SlotsFit}
use Rattle.slot_file.specs.Form.{slot_lengths, slots_in_range, slot_form}
use Rattle.mathematics.proofs.Lists.{list_length, list_at, run_below, run_of}
use Rattle.sections.specs.declared.Refusal.TheVariants as refusal

-- rows 21 to 24
pub record SlotGood (f : Shape) (s : List ℕ) : Type 0 where
  pub head : Headed s 3 41 3
  pub laid : Laid s (slot_lengths f (slots_before s f.weeks))
  pub few : (w : ℕ) → w < f.weeks → slot_count s w ≤ f.products
  pub product : (j : ℕ) → j < slots_before s f.weeks → (slot_at s j).product < f.products

module _ (f g : Shape) (s : List ℕ) (e : slot_form f s ≡ Ok g) where
  rows : (headed s 3 41 3 ≡ true) × (placed s 3 ≡ true) × (sized s (slot_lengths f (slots_before s f.weeks)) ≡ true)
      × (slots_in_range s f ≡ true) × (◌≡◌ {A = Form} (Ok f) (Ok g))
  unfolding slot_form
  rows =
      let a = row_good refusal.SlotContents (headed s 3 41 3) _ g e in
      let b = row_good refusal.SlotPlaces (placed s 3) _ g a.1 in
      let d = row_good refusal.SlotLengths (sized s (slot_lengths f (slots_before s f.weeks))) _ g b.1 in
      let r = row_good refusal.SlotRanges (slots_in_range s f) _ g d.1 in
      (a.0, b.0, d.0, r.0, r.1)

  pub slot_good : SlotGood f s
  unfolding slots_in_range slot_count
  slot_good =
      let h = headed_facts s 3 41 3 rows.0 in
      let range = and_both (in_range 1 s 0 0 f.weeks 0 f.products) _ rows.3 in
      let counts = range_first 1 s 0 f.weeks 0 f.products range.0 in
      let products = all_each (slots_before s f.weeks) (λ j. ltb (slot_at s j).product f.products) range.1 in
      record {
        head = h;
        laid = record { few = omega arith; long = h.long; lies = rows.1; lens = rows.2 };
        few = λ w l. (counts w l).1;
        product = λ j l. ltb-true _ _ (products j l);
      }

  -- a good slot file has the plant's shape
  pub slot_shape : g ≡ f
  slot_shape = let q = rows.4 in cc

-- the slots of a week
pub week_list : (f : Shape) (s : List ℕ) (w : ℕ) → (slots_of f s).line.week w ≡ list_below (slot_count s w) (λ k. slot_at s (slots_before s w + k))
unfolding slots_of
week_list f s w = refl

pub week_length : (f : Shape) (s : List ℕ) (w : ℕ) → length ((slots_of f s).line.week w) ≡ slot_count s w
unfolding slots_of
week_length f s w = list_length (slot_count s w) (λ k. slot_at s (slots_before s w + k))

pub week_slot : (f : Shape) (s : List ℕ) (w k : ℕ) (d : Slot) → k < slot_count s w
    → get_or ((slots_of f s).line.week w) k d ≡ slot_at s (slots_before s w + k)
unfolding slots_of
week_slot f s w k d l = list_at (slot_count s w) (λ j. slot_at s (slots_before s w + j)) k d l

-- slot k of week w is one of all
pub slot_below : (s : List ℕ) (n w k : ℕ) → w < n → k < slot_count s w → slots_before s w + k < slots_before s n
unfolding slots_before
slot_below s n w k l h = run_below n (slot_count s) w k l h

-- a week's slots are among all
pub week_below : (s : List ℕ) (n w : ℕ) → w < n → slots_before s w + slot_count s w ≤ slots_before s n
unfolding slots_before
week_below s n w l = sum_prefix n (slot_count s) (suc w) l

-- section 43 as a table
pub sales_cube : (f : Shape) (s : List ℕ) → cube 4 f.customers f.products f.weeks (slots_of f s).sales
    ≡ encode 4 (f.customers * f.products * f.weeks) (cell 4 s 2)
unfolding slots_of
sales_cube f s = cube_flat 4 f.customers f.products f.weeks (cell 4 s 2)

-- the widths
pub minutes_below : (s : List ℕ) → Bytes s → (j : ℕ) → (slot_at s j).minutes < 2 ^ 16
unfolding slot_at
minutes_below s b j = number_below 2 s _ b

pub sales_below : (f : Shape) (s : List ℕ) → Bytes s → (c i w : ℕ) → (slots_of f s).sales c i w < 2 ^ 32
unfolding slots_of cell
sales_below f s b c i w = number_below 4 s _ b

module _ (f : Shape) (s : List ℕ) (e : slot_form f s ≡ Ok f) where
  pub slots_formed : (w : ℕ) → w < f.weeks → WeekFormed f.products ((slots_of f s).line.week w)
  slots_formed w l =
      let h = slot_good f f s e in
      let n = week_length f s w in
      record {
        few = omega (arith, h.few w l);
        product = λ k m.
            let b : k < slot_count s w = omega arith in
            rw (week_slot f s w k _ b) (h.product (slots_before s w + k) (slot_below s f.weeks w k l b));
      }

  pub slots_fit : Bytes s → SlotsFit f (slots_of f s)
  slots_fit b =
      record {
        formed = slots_formed;
        minutes = λ w k l m. rw (week_slot f s w k _ (omega (arith, week_length f s w))) (minutes_below s b (slots_before s w + k));
        sales = λ c i w l m n. sales_below f s b c i w;
      }

-- row 24 asks no more: each week has 0 to N slots, each of a product below N
module _ (f : Shape) (s : List ℕ) (h : (w : ℕ) → w < f.weeks → WeekFormed f.products ((slots_of f s).line.week w)) where
  count_most : (w : ℕ) → w < f.weeks → slot_count s w ≤ f.products
  count_most w l = omega (arith, (h w l).few, week_length f s w)

  product_below : (j : ℕ) → j < slots_before s f.weeks → (slot_at s j).product < f.products
  unfolding slots_before
  product_below j l =
      let r = run_of f.weeks (slot_count s) j l in
      let b = (h r.which r.known).product r.place (omega (arith, r.inside, week_length f s r.which)) in
      rw r.stands (rw (week_slot f s r.which r.place no_slot r.inside) at b)

  pub formed_range : slots_in_range s f ≡ true
  unfolding slots_in_range in_range slot_count
  formed_range =
      both_and _ _
      (each_all f.weeks _ (λ w l. at_within 0 f.products (cell 1 s 0 (0 + w)) (omega arith) (rw zero-add (count_most w l))))
      (each_all (slots_before s f.weeks) _ (λ j l. lt-ltb _ _ (product_below j l)))

  -- so that no such file is refused with 24
  pub formed_not_24 : slot_form f s ≡ Err refusal.SlotRanges → ⊥
  unfolding slot_form
  formed_not_24 e =
      go (headed s 3 41 3) (placed s 3) (sized s (slot_lengths f (slots_before s f.weeks))) (rw formed_range at e)
    where
      go : (a b c : Bool) → row refusal.SlotContents a (row refusal.SlotPlaces b (row refusal.SlotLengths c (Ok f))) ≡ Err refusal.SlotRanges → ⊥
      go true true true e = let z : ◌≡◌ {A = ℕ} 0 1 = cc in omega arith
      go true true false e = let z : ◌≡◌ {A = ℕ} 23 24 = cc in omega arith
      go true false c e = let z : ◌≡◌ {A = ℕ} 22 24 = cc in omega arith
      go false b c e = let z : ◌≡◌ {A = ℕ} 21 24 = cc in omega arith
