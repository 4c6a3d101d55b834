-- What the rows that a good plant file has passed say of its layout. Assumes nothing.
use Prim.Native.Nat.{ℕ, ◌≤◌}
use mathlib.Core.Path.{◌≡◌, refl, sym, ap, ◌∙◌}
use mathlib.Core.Logic.{◌⊎◌, inl, inr}
use mathlib.Core.Bool.{Bool, true, false}
use mathlib.Core.List.{List}
use native.Mathlib.Omega.{arith}
use lib.ListN.{length, get_or}
use lib.Dec.{eqb}
use borrow.Author.Tests.{eqb-true}
use Rattle.mathematics.proofs.Below.{and_both, and_false}
use Rattle.contents.specs.Contents.{extent, placed, sized}
use Rattle.contents.proofs.Facts.{headed_facts, placed_facts, fits}
use Rattle.sections.specs.Section.{Holds, Laid}
use Rattle.sections.specs.declared.Shape.{Shape}
use Rattle.std.specs.Prelude.{Err, Ok}
use Rattle.sections.specs.Layout.{lengths_of}
use Rattle.sections.proofs.Rows.{row_good, laid_holds, width1}
use Rattle.plant_file.specs.Kinds.{plant_kind, has_mounted, contents_of}
use Rattle.plant_file.specs.Form.{shape_of, laid_out, in_limits, mounted_layout, plant_lengths, mounted_in_range, line_in_range, plant_in_range}
use Rattle.plant_file.specs.Form.{plant_headed, plant_form}
use Rattle.plant_file.proofs.PlantKinds.{each_kind, kind_sections, kind_lengths}
use Rattle.sections.specs.declared.Refusal.TheVariants as refusal

-- row 1: long enough for its kind's contents
pub plant_long : (s : List ℕ) → plant_headed s ≡ true → contents_of (get_or s 0 0) ≤ length s
unfolding plant_headed
plant_long s h = (headed_facts s (plant_kind (get_or s 0 0)).number 1 (plant_kind (get_or s 0 0)).sections h).long

-- row 2, its two parts
pub laid_parts : (s : List ℕ) → laid_out s ≡ true → (placed s (plant_kind (get_or s 0 0)).sections ≡ true) × (extent s 0 ≡ 3)
unfolding laid_out
laid_parts s h = let r = and_both (placed s (plant_kind (get_or s 0 0)).sections) (eqb (extent s 0) 3) h in (r.0, eqb-true _ _ r.1)

-- so section 1 has its three bytes
pub shape_holds : (s : List ℕ) → plant_headed s ≡ true → laid_out s ≡ true → Holds s 0 1 3
shape_holds s h l =
    let n = (plant_kind (get_or s 0 0)).sections in
    let some = (kind_sections (get_or s 0 0)).0 in
    let p = laid_parts s l in
    record {
      width = width1;
      listed = omega (arith, plant_long s h, some);
      few = omega arith;
      fits = omega (arith, fits s n (placed_facts s n p.0) 0 (omega (arith, some)), p.1);
    }

pub shape_kind : (s : List ℕ) → (shape_of s).kind ≡ get_or s 0 0
unfolding shape_of
shape_kind s = refl

-- rows 1, 2 and 4: the bodies lie where they should and have their lengths
pub plant_laid : (s : List ℕ) (f : Shape) → get_or s 0 0 ≡ f.kind → plant_headed s ≡ true → laid_out s ≡ true
    → sized s (plant_lengths f) ≡ true → Laid s (plant_lengths f)
plant_laid s f k h l z =
    let n : (plant_kind (get_or s 0 0)).sections ≡ length (plant_lengths f) =
    ap (λ (kind : ℕ). (plant_kind kind).sections) k ∙ sym (kind_lengths f) in
    record {
      few = omega (arith, n, (kind_sections (get_or s 0 0)).1);
      long = omega (arith, n, plant_long s h);
      lies = rw n at (laid_parts s l).0;
      lens = z;
    }

-- the same of the shape that was read
module _ (s : List ℕ) (f : Shape) (e : f ≡ shape_of s) (h : plant_headed s ≡ true) where
  kind_is : get_or s 0 0 ≡ f.kind
  kind_is = sym (ap (λ (x : Shape). x.kind) e ∙ shape_kind s)

  pub shape_long : contents_of f.kind ≤ length s
  shape_long = rw kind_is at (plant_long s h)

  pub shape_laid : laid_out s ≡ true → sized s (plant_lengths f) ≡ true → Laid s (plant_lengths f)
  shape_laid = plant_laid s f kind_is h

-- section 12 has its two bytes in the kinds that have it
pub mounted_holds : (s : List ℕ) (f : Shape) → Laid s (plant_lengths f) → has_mounted f.kind ≡ true → Holds s 11 1 2
mounted_holds s f z h =
    let n : length (lengths_of (mounted_layout f.kind)) ≡ 1 = rw h refl in
    let b : get_or (plant_lengths f) 11 0 ≡ 2 = rw h refl in
    laid_holds z 11 (omega (arith, n)) 1 2 width1 (omega (arith, b))

-- rows 1 to 5, all passed
pub record PlantGood (s : List ℕ) (f : Shape) : Type 0 where
  pub shape : shape_of s ≡ f
  pub kind : get_or s 0 0 ≡ f.kind
  pub head : plant_headed s ≡ true
  pub laid : laid_out s ≡ true
  pub limits : in_limits f ≡ true
  pub lengths : sized s (plant_lengths f) ≡ true
  pub ranges : plant_in_range s f ≡ true

pub plant_good : (s : List ℕ) (f : Shape) → plant_form s ≡ Ok f → PlantGood s f
unfolding plant_form
plant_good s f e =
    let g = shape_of s in
    let p1 = row_good refusal.PlantContents (plant_headed s) _ f e in
    let p2 = row_good refusal.PlantPlaces (laid_out s) _ f p1.1 in
    let p3 = row_good refusal.PlantLimits (in_limits g) _ f p2.1 in
    let p4 = row_good refusal.PlantLengths (sized s (plant_lengths g)) _ f p3.1 in
    let p5 = row_good refusal.PlantRanges (plant_in_range s g) _ f p4.1 in
    let q : g ≡ f = cc in
    record {
      shape = q;
      kind = sym (shape_kind s) ∙ ap (λ (x : Shape). x.kind) q;
      head = p1.0;
      laid = p2.0;
      limits = rw q at p3.0;
      lengths = rw q at p4.0;
      ranges = rw q at p5.0;
    }

pub good_laid : (s : List ℕ) (f : Shape) → plant_form s ≡ Ok f → Laid s (plant_lengths f)
good_laid s f e = let g = plant_good s f e in plant_laid s f g.kind g.head g.laid g.lengths

-- row 1: the kind byte is a kind's number
pub known_number : (s : List ℕ) (f : Shape) → plant_form s ≡ Ok f → (plant_kind f.kind).number ≡ f.kind
unfolding plant_headed
known_number s f e =
    let g = plant_good s f e in
    let k = plant_kind (get_or s 0 0) in
    rw g.kind at (sym (headed_facts s k.number 1 k.sections g.head).kinds)

-- section 12 out of its range is row 5, of a file past rows 1 to 4
pub outside_refused : (s : List ℕ) → plant_headed s ≡ true → laid_out s ≡ true → in_limits (shape_of s) ≡ true
    → sized s (plant_lengths (shape_of s)) ≡ true → mounted_in_range s (shape_of s) ≡ false → plant_form s ≡ Err refusal.PlantRanges
unfolding plant_form plant_in_range line_in_range
outside_refused s h l i z m = rw (h, l, i, z, m, and_false, and_false, and_false, and_false) refl

-- what row 1 compares: the pair of kind and count
pub headed_kinds : (s : List ℕ) → plant_headed s ≡ true
    → ((get_or s 0 0 ≡ 1) × (get_or s 1 0 ≡ 11)) ⊎ ((get_or s 0 0 ≡ 4) × (get_or s 1 0 ≡ 12))
unfolding plant_headed
headed_kinds s h =
    let k = plant_kind (get_or s 0 0) in
    let g = headed_facts s k.number 1 k.sections h in
    each_kind
    (λ k. get_or s 0 0 ≡ k.number → get_or s 1 0 ≡ k.sections → ((get_or s 0 0 ≡ 1) × (get_or s 1 0 ≡ 11)) ⊎ ((get_or s 0 0 ≡ 4) × (get_or s 1 0 ≡ 12)))
    (λ a b. inl (a, b)) (λ a b. inr (a, b)) (get_or s 0 0) g.kinds g.counts

pub other_pair : (s : List ℕ) → ((get_or s 0 0 ≡ 1) × (get_or s 1 0 ≡ 11) → ⊥) → ((get_or s 0 0 ≡ 4) × (get_or s 1 0 ≡ 12) → ⊥) → plant_form s ≡ Err refusal.PlantContents
unfolding plant_form
other_pair s one four = go (plant_headed s) refl
  where
    go : (t : Bool) → plant_headed s ≡ t → plant_form s ≡ Err refusal.PlantContents
    go true e = absurd (elim (headed_kinds s e) [ inl h ↦ one h | inr h ↦ four h ])
    go false e = rw e refl
