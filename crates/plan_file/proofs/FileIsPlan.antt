-- A PLAN FILE WITH GIVEN NUMBERS IS GOOD, AND THOSE NUMBERS ARE READ BACK. Assumes nothing.
use Prim.Native.Nat.{ℕ, ◌+◌, ◌*◌, ◌^◌, ◌≤◌, ◌<◌}
use mathlib.Core.Path.{◌≡◌, refl, ap, ◌∙◌, sym}
use mathlib.Core.Bool.{true}
use mathlib.Core.List.{List, [], map}
use native.Mathlib.Omega.{arith}
use lib.ListN.{length, get_or}
use Rattle.numbers.specs.Number.{part}
use Rattle.numbers.specs.Signed.{signed_of, unsigned_of}
use Rattle.numbers.proofs.TwosComplement.{signed_unsigned, unsigned_below}
use Rattle.contents.specs.Contents.{offset, extent, cell, placed, sized}
use Rattle.contents.specs.File.{start, Listable}
use Rattle.contents.proofs.FileWritten as written
use Rattle.sections.specs.Section.{in_range, grid, cube}
use Rattle.sections.specs.declared.Shape.{Shape}
use Rattle.std.specs.Prelude.{Ok}
use Rattle.sections.proofs.Tables.{section_at, grid_at, cube_at}
use Rattle.sections.proofs.Places.{Small}
use Rattle.sections.proofs.Layouts.{table_rows}
use Rattle.plan_file.specs.Plan.{Plan, line_plan_of, plan_of, Same2, Same3, SamePlan, Below2, Below3, PlanFits}
use Rattle.plan_file.specs.Form.{plan_lengths, binary, plan_form}
use Rattle.plan_file.specs.File.{plan_bodies, plan_file}
use Rattle.plan_file.proofs.Lengths.{listable}
use Rattle.mathematics.proofs.Lists.{flat_each, flat_each3}
use Rattle.sections.proofs.Bodies.{grid_length, cube_length}
use Rattle.plan_file.proofs.PlanReads.{facts_binary, bits_range}

-- each body has its length
pub bodies_lengths : (f : Shape) (x : Plan) → map length (plan_bodies f x) ≡ plan_lengths f
unfolding plan_bodies
bodies_lengths f x = simp (grid_length, cube_length, table_rows)

pub file_length : (f : Shape) (x : Plan) → length (plan_file f x) ≡ start (plan_lengths f) 12
unfolding plan_file
file_length f x = written.file_length 2 21 (plan_bodies f x) ∙ ap (λ (l : List ℕ). start l (length l)) (bodies_lengths f x)

module _ (f : Shape) (x : Plan) (small : Small f) where
  abbrev F : List ℕ
  F = plan_file f x

  listed : Listable 21 (map length (plan_bodies f x))
  listed = rw (bodies_lengths f x) (listable f small)

  size : (place : ℕ) → place < 12 → extent F place ≡ get_or (plan_lengths f) place 0
  unfolding plan_file plan_bodies
  size place l =
      written.extent_is 2 21 (plan_bodies f x) (omega arith) listed place l ∙ ap (λ (m : List ℕ). get_or m place 0) (bodies_lengths f x)

  body : (place : ℕ) → place < 12 → part F (offset F place) (extent F place) ≡ get_or (plan_bodies f x) place []
  unfolding plan_file plan_bodies
  body place l = written.file_body 2 21 (plan_bodies f x) (omega arith) listed place l

  -- a table is read back from the section in its place
  by_week : (place : ℕ) → place < 12 → (k : ℕ) (a : ℕ → ℕ → ℕ) {bound : ℕ} → bound ≤ 256 ^ k
      → get_or (plan_lengths f) place 0 ≡ k * (f.weeks * f.products) → get_or (plan_bodies f x) place [] ≡ grid k f.weeks f.products a
      → Below2 f.weeks f.products bound a → Same2 f.weeks f.products (λ w i. cell k F place (w * f.products + i)) a
  by_week place l k a room e g h w i p q =
      grid_at k F place f.weeks f.products a (size place l ∙ e) (body place l ∙ g) w i p q (omega (arith, h w i p q))

  by_three : (place : ℕ) → place < 12 → (k m n o : ℕ) (a : ℕ → ℕ → ℕ → ℕ) {bound : ℕ} → bound ≤ 256 ^ k
      → get_or (plan_lengths f) place 0 ≡ k * (m * n * o) → get_or (plan_bodies f x) place [] ≡ cube k m n o a
      → Below3 m n o bound a → Same3 m n o (λ u v w. cell k F place ((u * n + v) * o + w)) a
  by_three place l k m n o a room e g h u v w p q r =
      cube_at k F place m n o a (size place l ∙ e) (body place l ∙ g) u v w p q r (omega (arith, h u v w p q r))

  module _ (h : PlanFits f x) where
    profit : signed_of (cell 8 F 11 0) ≡ x.profit
    unfolding plan_bodies
    profit =
        ap signed_of (section_at 8 F 11 1 (λ j. unsigned_of x.profit) (size 11 (omega arith)) (body 11 (omega arith)) 0 (omega arith)
        (unsigned_below x.profit h.profit)) ∙ signed_unsigned x.profit h.profit

    pub file_plan : SamePlan f (plan_of f F) x
    unfolding plan_of line_plan_of plan_bodies
    file_plan =
        let l = h.line in
        let squares = sym (table_rows 1 f.weeks f.products f.products) in
        record {
          line = record {
            assigned = by_week 0 (omega arith) 1 x.line.assigned (omega arith) refl refl l.assigned;
            first = by_week 1 (omega arith) 1 x.line.first (omega arith) refl refl l.first;
            last = by_week 2 (omega arith) 1 x.line.last (omega arith) refl refl l.last;
            changeover = by_three 3 (omega arith) 1 _ _ _ x.line.changeover (omega arith) squares refl l.changeover;
            week_changeover = by_three 4 (omega arith) 1 _ _ _ x.line.week_changeover (omega arith) squares refl l.week_changeover;
            position = by_week 5 (omega arith) 1 x.line.position (omega arith) refl refl l.position;
            minutes = by_week 6 (omega arith) 2 x.line.minutes (omega arith) refl refl l.minutes;
          };
          production = by_week 7 (omega arith) 4 x.production (omega arith) refl refl h.production;
          sales = by_three 8 (omega arith) 4 _ _ _ x.sales (omega arith) refl refl h.sales;
          inventory = by_week 9 (omega arith) 4 x.inventory (omega arith) refl refl h.inventory;
          backlog = by_three 10 (omega arith) 4 _ _ _ x.backlog (omega arith) refl refl h.backlog;
          profit = profit;
        }

    -- row 14
    bits_by_week : (place : ℕ) {a : ℕ → ℕ → ℕ} → Same2 f.weeks f.products (λ w i. cell 1 F place (w * f.products + i)) a
        → Below2 f.weeks f.products 2 a → in_range 1 F place 0 (f.weeks * f.products) 0 1 ≡ true
    bits_by_week place e b =
        bits_range F place _ (flat_each (λ j. cell 1 F place j < 2) f.weeks f.products (λ w i p q. rw (e w i p q) (b w i p q)))

    bits_by_pair : (place : ℕ) {a : ℕ → ℕ → ℕ → ℕ}
        → Same3 f.weeks f.products f.products (λ w i j. cell 1 F place ((w * f.products + i) * f.products + j)) a
        → Below3 f.weeks f.products f.products 2 a → in_range 1 F place 0 (f.weeks * f.products * f.products) 0 1 ≡ true
    bits_by_pair place e b =
        bits_range F place _
        (flat_each3 (λ j. cell 1 F place j < 2) f.weeks f.products f.products (λ w i j p q r. rw (e w i j p q r) (b w i j p q r)))

    row14 : binary F f ≡ true
    unfolding plan_of line_plan_of
    row14 =
        let e = file_plan.line in
        let b = h.line in
        facts_binary F f (record {
          assigned = bits_by_week 0 e.assigned b.assigned;
          first = bits_by_week 1 e.first b.first;
          last = bits_by_week 2 e.last b.last;
          changeover = bits_by_pair 3 e.changeover b.changeover;
          week_changeover = bits_by_pair 4 e.week_changeover b.week_changeover;
        })

    pub file_good : plan_form f F ≡ Ok f
    unfolding plan_form plan_file plan_bodies
    file_good =
        let bodies = plan_bodies f x in
        let lies : placed F 12 ≡ true = written.file_placed 2 21 bodies (omega arith) listed in
        let lens : sized F (plan_lengths f) ≡ true = rw (bodies_lengths f x) at (written.file_sized 2 21 bodies (omega arith) listed) in
        rw (written.file_headed 2 21 bodies (omega arith) listed, lies, lens, row14)
