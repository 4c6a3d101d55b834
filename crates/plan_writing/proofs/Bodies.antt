-- Each body of a plan is its rows in file order, end to end. Assumes nothing.
use Prim.Native.Nat.{ℕ, zero, suc, ◌*◌, ◌/◌, ◌%◌, ◌<◌}
use mathlib.Core.Path.{◌≡◌, refl, sym, ap, ◌∙◌}
use mathlib.Core.List.{List, [], ◌∷◌}
use native.Mathlib.Omega.{arith}
use lib.ListN.{length, get_or}
use Rattle.mathematics.specs.Below.{join_below, list_below}
use Rattle.mathematics.proofs.Join.{join_ext, join_table}
use Rattle.mathematics.proofs.Lists.{list_at}
use Rattle.numbers.specs.Number.{digits, encode}
use Rattle.contents.proofs.FileLayout.{body_length as size_at}
use Rattle.sections.specs.Section.{grid, cube}
use Rattle.sections.specs.declared.Shape.{Shape}
use Rattle.sections.proofs.Tables.{cube_rows}
use Rattle.sections.proofs.Bodies.{rows_length}
use Rattle.plan_file.specs.Plan.{Plan}
use Rattle.plan_file.specs.Form.{plan_lengths}
use Rattle.plan_file.specs.File.{plan_bodies}
use Rattle.plan_file.proofs.FileIsPlan.{bodies_lengths}
use Rattle.plan_writing.specs.Bodies.{section_of, row_in}

-- the last two indices as one
cube_squares : (k l m n : ℕ) (t : ℕ → ℕ → ℕ → ℕ) → cube k l m n t ≡ join_below l (λ h. encode k (m * n) (λ j. t h (j / n) (j % n)))
unfolding cube grid
cube_squares k l m n t = join_ext l _ _ (λ h q. join_table m n (λ i j. digits k (t h i j)))

-- the bytes of the body in a place
abbrev body_in : Shape → Plan → ℕ → List ℕ
body_in f x place = join_below (section_of f place).rows (λ r. encode (section_of f place).width (section_of f place).columns (row_in f x place r))

bodies_are : (f : Shape) (x : Plan) → plan_bodies f x ≡ list_below 12 (body_in f x)
unfolding plan_bodies section_of row_in grid
bodies_are f x =
    let w = f.weeks in
    let n = f.products in
    λ u.
    body_in f x 0
    ∷ body_in f x 1
    ∷ body_in f x 2
    ∷ cube_squares 1 w n n x.line.changeover u
    ∷ cube_squares 1 w n n x.line.week_changeover u
    ∷ body_in f x 5
    ∷ body_in f x 6
    ∷ body_in f x 7
    ∷ cube_rows 4 f.customers n w x.sales u
    ∷ body_in f x 9
    ∷ cube_rows 4 f.customers n w x.backlog u
    ∷ body_in f x 11
    ∷ []

pub body_is : (f : Shape) (x : Plan) (place : ℕ) → place < 12
    → join_below (section_of f place).rows (λ r. encode (section_of f place).width (section_of f place).columns (row_in f x place r))
    ≡ get_or (plan_bodies f x) place []
body_is f x place l = sym (ap (λ (b : List (List ℕ)). get_or b place []) (bodies_are f x) ∙ list_at 12 (body_in f x) place [] l)

-- E, F, L, Z, ZF and O have a byte for each number, and they, T and P a row for each week
pub mark_width : (f : Shape) (place : ℕ) → place < 6 → (section_of f place).width ≡ 1
unfolding section_of
mark_width f zero l = refl
mark_width f (suc zero) l = refl
mark_width f (suc (suc zero)) l = refl
mark_width f (suc (suc (suc zero))) l = refl
mark_width f (suc (suc (suc (suc zero)))) l = refl
mark_width f (suc (suc (suc (suc (suc zero))))) l = refl
mark_width f (suc (suc (suc (suc (suc (suc place)))))) l = absurd (omega arith)

pub week_rows : (f : Shape) (place : ℕ) → place < 8 → (section_of f place).rows ≡ f.weeks
unfolding section_of
week_rows f zero l = refl
week_rows f (suc zero) l = refl
week_rows f (suc (suc zero)) l = refl
week_rows f (suc (suc (suc zero))) l = refl
week_rows f (suc (suc (suc (suc zero)))) l = refl
week_rows f (suc (suc (suc (suc (suc zero))))) l = refl
week_rows f (suc (suc (suc (suc (suc (suc zero)))))) l = refl
week_rows f (suc (suc (suc (suc (suc (suc (suc zero))))))) l = refl
week_rows f (suc (suc (suc (suc (suc (suc (suc (suc place)))))))) l = absurd (omega arith)

pub bodies_count : (f : Shape) (x : Plan) → length (plan_bodies f x) ≡ 12
unfolding plan_bodies
bodies_count f x = refl

-- each body has the length of row 13
pub body_size : (f : Shape) (x : Plan) (place : ℕ) → length (get_or (plan_bodies f x) place []) ≡ get_or (plan_lengths f) place 0
body_size f x place = sym (size_at (plan_bodies f x) place) ∙ ap (λ (n : List ℕ). get_or n place 0) (bodies_lengths f x)

pub body_length : (f : Shape) (x : Plan) (place : ℕ) → place < 12
    → (section_of f place).rows * ((section_of f place).width * (section_of f place).columns) ≡ get_or (plan_lengths f) place 0
body_length f x place l =
    sym (rows_length (section_of f place).width (section_of f place).columns (section_of f place).rows (row_in f x place))
    ∙ (ap length (body_is f x place l) ∙ body_size f x place)
