-- WHAT A GOOD PLAN FILE HOLDS: it has passed each row, its bodies lie where they should, and its numbers fit. Assumes nothing.
use Rattle.sections.specs.Rows.{Form}
use Prim.Native.Nat.{ℕ, ◌+◌, ◌*◌, ◌^◌, ◌<◌}
use mathlib.Core.Path.{◌≡◌}
use mathlib.Core.Bool.{true}
use mathlib.Core.List.{List}
use native.Mathlib.Omega.{arith}
use native.Mathlib.Nat.{zero-add}
use Rattle.mathematics.proofs.Below.{and_both, both_and, each_all, at_within}
use Rattle.mathematics.proofs.Join.{table_below}
use Rattle.numbers.specs.Number.{Bytes, encode}
use Rattle.numbers.proofs.Number.{number_below}
use Rattle.numbers.proofs.TwosComplement.{signed_fits}
use Rattle.contents.specs.Contents.{cell, offset, headed, placed, sized}
use Rattle.contents.proofs.Facts.{Headed, headed_facts}
use Rattle.sections.specs.Section.{in_range, Laid, cube}
use Rattle.sections.specs.declared.Shape.{Shape}
use Rattle.std.specs.Prelude.{Ok}
use Rattle.sections.proofs.Rows.{row_good}
use Rattle.sections.proofs.Tables.{range_first, cube_below, cube_flat}
use Rattle.plan_file.specs.Plan.{line_plan_of, plan_of, PlanFits}
use Rattle.plan_file.specs.Form.{plan_lengths, binary, plan_form}
use Rattle.sections.specs.declared.Refusal.TheVariants as refusal

-- row 14
pub record Binary (s : List ℕ) (f : Shape) : Type 0 where
  pub assigned : in_range 1 s 0 0 (f.weeks * f.products) 0 1 ≡ true
  pub first : in_range 1 s 1 0 (f.weeks * f.products) 0 1 ≡ true
  pub last : in_range 1 s 2 0 (f.weeks * f.products) 0 1 ≡ true
  pub changeover : in_range 1 s 3 0 (f.weeks * f.products * f.products) 0 1 ≡ true
  pub week_changeover : in_range 1 s 4 0 (f.weeks * f.products * f.products) 0 1 ≡ true

pub binary_facts : (s : List ℕ) (f : Shape) → binary s f ≡ true → Binary s f
unfolding binary
binary_facts s f h =
    let a = and_both (in_range 1 s 0 0 (f.weeks * f.products) 0 1) _ h in
    let b = and_both (in_range 1 s 1 0 (f.weeks * f.products) 0 1) _ a.1 in
    let d = and_both (in_range 1 s 2 0 (f.weeks * f.products) 0 1) _ b.1 in
    let e = and_both (in_range 1 s 3 0 (f.weeks * f.products * f.products) 0 1) _ d.1 in
    record { assigned = a.0; first = b.0; last = d.0; changeover = e.0; week_changeover = e.1 }

pub facts_binary : (s : List ℕ) (f : Shape) → Binary s f → binary s f ≡ true
unfolding binary
facts_binary s f h =
    both_and _ _ h.assigned (both_and _ _ h.first (both_and _ _ h.last (both_and _ _ h.changeover h.week_changeover)))

-- rows 11 to 14
pub record PlanGood (f : Shape) (s : List ℕ) : Type 0 where
  pub heads : Headed s 2 21 12
  pub laid : Laid s (plan_lengths f)
  pub bits : Binary s f

module _ (f : Shape) (s : List ℕ) {g : Shape} (h : plan_form f s ≡ Ok g) where
  rows : (headed s 2 21 12 ≡ true) × (placed s 12 ≡ true) × (sized s (plan_lengths f) ≡ true) × (binary s f ≡ true) × (◌≡◌ {A = Form} (Ok f) (Ok g))
  unfolding plan_form
  rows =
      let a = row_good refusal.PlanContents (headed s 2 21 12) _ g h in
      let b = row_good refusal.PlanPlaces (placed s 12) _ g a.1 in
      let d = row_good refusal.PlanLengths (sized s (plan_lengths f)) _ g b.1 in
      let e = row_good refusal.PlanMarks (binary s f) _ g d.1 in
      (a.0, b.0, d.0, e.0, e.1)

  pub plan_good : PlanGood f s
  plan_good =
      let heads = headed_facts s 2 21 12 rows.0 in
      record {
        heads = heads;
        laid = record { few = omega arith; long = heads.long; lies = rows.1; lens = rows.2 };
        bits = binary_facts s f rows.3;
      }

  -- a good plan has the plant's shape
  pub plan_shape : g ≡ f
  plan_shape = let e = rows.4 in cc

-- ---- every number has its range
pub cell_below : (k : ℕ) (s : List ℕ) (i j : ℕ) → Bytes s → cell k s i j < 256 ^ k
unfolding cell
cell_below k s i j b = number_below k s (offset s i + k * j) b

pub bit_below : (s : List ℕ) (i m : ℕ) → in_range 1 s i 0 m 0 1 ≡ true → {j : ℕ} → j < m → cell 1 s i j < 2
bit_below s i m h {j} l = omega (arith, (range_first 1 s i m 0 1 h j l).1)

pub bits_range : (s : List ℕ) (i m : ℕ) → ((j : ℕ) → j < m → cell 1 s i j < 2) → in_range 1 s i 0 m 0 1 ≡ true
unfolding in_range
bits_range s i m h = each_all m _ (λ j l. at_within 0 1 (cell 1 s i (0 + j)) (omega arith) (rw zero-add (omega (arith, h j l))))

-- section 29 as a table
pub sales_cube : (f : Shape) (s : List ℕ) → cube 4 f.customers f.products f.weeks (plan_of f s).sales
    ≡ encode 4 (f.customers * f.products * f.weeks) (cell 4 s 8)
unfolding plan_of
sales_cube f s = cube_flat 4 f.customers f.products f.weeks (cell 4 s 8)

pub plan_fits : (f : Shape) (s : List ℕ) → Bytes s → plan_form f s ≡ Ok f → PlanFits f (plan_of f s)
unfolding plan_of line_plan_of
plan_fits f s b h =
    let z = (plan_good f s h).bits in
    record {
      line = record {
        assigned = λ w i p q. bit_below s 0 _ z.assigned (table_below p q);
        first = λ w i p q. bit_below s 1 _ z.first (table_below p q);
        last = λ w i p q. bit_below s 2 _ z.last (table_below p q);
        changeover = λ w i j p q r. bit_below s 3 _ z.changeover (cube_below p q r);
        week_changeover = λ w i j p q r. bit_below s 4 _ z.week_changeover (cube_below p q r);
        position = λ w i p q. cell_below 1 s 5 _ b;
        minutes = λ w i p q. cell_below 2 s 6 _ b;
      };
      production = λ w i p q. cell_below 4 s 7 _ b;
      sales = λ c i w p q r. cell_below 4 s 8 _ b;
      inventory = λ w i p q. cell_below 4 s 9 _ b;
      backlog = λ c i w p q r. cell_below 4 s 10 _ b;
      profit = signed_fits (cell 8 s 11 0) (cell_below 8 s 11 0 b);
    }
