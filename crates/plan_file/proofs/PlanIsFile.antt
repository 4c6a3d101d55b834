-- A GOOD PLAN FILE IS THE LAYOUT OF ITS NUMBERS, byte for byte. Assumes nothing.
use Prim.Native.Nat.{ℕ, ◌+◌, ◌*◌, ◌<◌}
use mathlib.Core.Path.{◌≡◌, refl, ap, ◌∙◌, sym}
use mathlib.Core.List.{List, []}
use native.Mathlib.Omega.{arith}
use lib.ListN.{get_or}
use Rattle.mathematics.proofs.Below.{below_twelve}
use Rattle.numbers.specs.Number.{Bytes, Width, digits, encode, part}
use Rattle.numbers.specs.Signed.{signed_of, unsigned_of}
use Rattle.numbers.proofs.TwosComplement.{unsigned_signed}
use Rattle.contents.specs.Contents.{offset, extent, cell}
use Rattle.contents.proofs.Facts.{placed_facts}
use Rattle.contents.proofs.FileLayout.{file_is_layout}
use Rattle.sections.specs.Section.{grid, cube}
use Rattle.sections.specs.declared.Shape.{Shape}
use Rattle.std.specs.Prelude.{Ok}
use Rattle.sections.proofs.Rows.{laid_extent, laid_holds, width1, width2, width4, width8}
use Rattle.sections.proofs.Layouts.{table_rows}
use Rattle.sections.proofs.Tables.{grid_flat, cube_flat, section_is}
use Rattle.plan_file.specs.Plan.{line_plan_of, plan_of}
use Rattle.plan_file.specs.Form.{plan_lengths, plan_form}
use Rattle.plan_file.specs.File.{plan_bodies, plan_file}
use Rattle.plan_file.proofs.PlanReads.{plan_good, cell_below}

module _ (f : Shape) (s : List ℕ) (b : Bytes s) (h : plan_form f s ≡ Ok f) where
  -- the body in a place is the encoding of its numbers
  body : (place : ℕ) → place < 12 → (k m : ℕ) → Width k → get_or (plan_lengths f) place 0 ≡ k * m
      → encode k m (cell k s place) ≡ part s (offset s place) (extent s place)
  body place l k m w e =
      let z = (plan_good f s h).laid in
      section_is k m s place b (laid_holds z place l k m w (omega arith)) (laid_extent z place l ∙ e)

  by_week : (place : ℕ) → place < 12 → (k : ℕ) → Width k → get_or (plan_lengths f) place 0 ≡ k * (f.weeks * f.products)
      → grid k f.weeks f.products (λ w i. cell k s place (w * f.products + i)) ≡ part s (offset s place) (extent s place)
  by_week place l k w e = grid_flat k f.weeks f.products (cell k s place) ∙ body place l k _ w e

  by_three : (place : ℕ) → place < 12 → (k m n o : ℕ) → Width k → get_or (plan_lengths f) place 0 ≡ k * (m * n * o)
      → cube k m n o (λ x y z. cell k s place ((x * n + y) * o + z)) ≡ part s (offset s place) (extent s place)
  by_three place l k m n o w e = cube_flat k m n o (cell k s place) ∙ body place l k _ w e

  profit : digits 8 (unsigned_of (signed_of (cell 8 s 11 0))) ≡ part s (offset s 11) (extent s 11)
  profit = ap (digits 8) (unsigned_signed (cell 8 s 11 0) (cell_below 8 s 11 0 b)) ∙ body 11 (omega arith) 8 1 width8 refl

  bodies : (i : ℕ) → i < 12 → get_or (plan_bodies f (plan_of f s)) i [] ≡ part s (offset s i) (extent s i)
  unfolding plan_bodies plan_of line_plan_of
  bodies =
      let squares = sym (table_rows 1 f.weeks f.products f.products) in
      below_twelve (λ i. get_or (plan_bodies f (plan_of f s)) i [] ≡ part s (offset s i) (extent s i))
      (by_week 0 (omega arith) 1 width1 refl)
      (by_week 1 (omega arith) 1 width1 refl)
      (by_week 2 (omega arith) 1 width1 refl)
      (by_three 3 (omega arith) 1 _ _ _ width1 squares)
      (by_three 4 (omega arith) 1 _ _ _ width1 squares)
      (by_week 5 (omega arith) 1 width1 refl)
      (by_week 6 (omega arith) 2 width2 refl)
      (by_week 7 (omega arith) 4 width4 refl)
      (by_three 8 (omega arith) 4 _ _ _ width4 refl)
      (by_week 9 (omega arith) 4 width4 refl)
      (by_three 10 (omega arith) 4 _ _ _ width4 refl)
      profit

  pub plan_is_file : s ≡ plan_file f (plan_of f s)
  unfolding plan_file plan_bodies
  plan_is_file =
      let z = plan_good f s h in
      file_is_layout s 2 21 12 b z.heads (placed_facts s 12 z.laid.lies) (plan_bodies f (plan_of f s)) refl bodies
