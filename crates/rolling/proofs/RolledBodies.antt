-- The bodies of the plant that is left after the first k weeks, from the plant's and the plan's numbers. Assumes nothing.
use Prim.Native.Nat.{ℕ, ◌-◌, ◌≤◌, ◌<◌}
use mathlib.Core.Path.{◌≡◌, refl, sym, ap, ◌∙◌}
use mathlib.Core.Logic.{◌≢◌}
use mathlib.Core.List.{List, [], ◌++◌, map}
use lib.ListN.{length, get_or}
use Rattle.mathematics.proofs.Below.{below_twelve}
use Rattle.numbers.specs.Number.{encode}
use Rattle.contents.specs.File.{start, file_of}
use Rattle.contents.proofs.FileLayout.{body_length}
use Rattle.sections.specs.Section.{grid}
use Rattle.sections.specs.declared.Shape.{Shape}
use Rattle.plant_file.specs.Kinds.{plant_kind}
use Rattle.plant_file.specs.Plant.{Plant}
use Rattle.plant_file.specs.Form.{plant_lengths}
use Rattle.plant_file.specs.File.{plant_bodies, plant_file}
use Rattle.plant_file.proofs.PlantKinds.{kind_lengths, bodies_count}
use Rattle.plant_file.proofs.FileIsPlant.{bodies_lengths, file_length}
use Rattle.plan_file.specs.Plan.{Plan}
use Rattle.model.specs.Rolled.{rolled_shape, rolled_plant}
use Rattle.model.proofs.RolledTests.{backlog_after_lem, inventory_after_lem}
use Rattle.rolling.specs.Left.{left_shape, left_plant}
use Rattle.rolling.specs.declared.Rolled.{Rolled}

-- section 10
pub opening_body : (P : Plant) (x : Plan) (k : ℕ) (rate : ℕ → ℕ) → 1 ≤ k
    → encode 4 P.products (x.inventory (k - 1)) ++ grid 4 P.customers P.products (λ c i. x.backlog c i (k - 1))
    ≡ get_or (plant_bodies (rolled_plant P x k rate)) 9 []
unfolding plant_bodies rolled_plant
opening_body P x k rate l =
    λ u. encode 4 P.products (sym (inventory_after_lem P x k l) u) ++ grid 4 P.customers P.products (sym (backlog_after_lem P x k l) u)

-- what holds at the places that are copied holds at each but those of sections 1, 2, 5, 10 and 12
at_copied : (Q : ℕ → Type 0) → Q 2 → Q 3 → Q 5 → Q 6 → Q 7 → Q 8 → Q 10
    → (place : ℕ) → place < 12 → place ≢ 0 → place ≢ 1 → place ≢ 4 → place ≢ 9 → place ≢ 11 → Q place
at_copied Q x2 x3 x5 x6 x7 x8 x10 place l a b c d e =
    below_twelve (λ i. i ≢ 0 → i ≢ 1 → i ≢ 4 → i ≢ 9 → i ≢ 11 → Q i)
    (λ a b c d e. absurd (a refl))
    (λ a b c d e. absurd (b refl))
    (λ a b c d e. x2)
    (λ a b c d e. x3)
    (λ a b c d e. absurd (c refl))
    (λ a b c d e. x5)
    (λ a b c d e. x6)
    (λ a b c d e. x7)
    (λ a b c d e. x8)
    (λ a b c d e. absurd (d refl))
    (λ a b c d e. x10)
    (λ a b c d e. absurd (e refl))
    place l a b c d e

-- they have the bodies and the lengths of the plant
pub copied : (P : Plant) (x : Plan) (k : ℕ) (rate : ℕ → ℕ) (place : ℕ) → place < 12
    → place ≢ 0 → place ≢ 1 → place ≢ 4 → place ≢ 9 → place ≢ 11
    → get_or (plant_bodies P) place [] ≡ get_or (plant_bodies (rolled_plant P x k rate)) place []
unfolding plant_bodies rolled_plant
copied P x k rate =
    at_copied (λ place. get_or (plant_bodies P) place [] ≡ get_or (plant_bodies (rolled_plant P x k rate)) place []) refl refl refl refl refl refl refl

pub copied_length : (f : Shape) (k place : ℕ) → place < 12 → place ≢ 0 → place ≢ 1 → place ≢ 4 → place ≢ 9 → place ≢ 11
    → get_or (plant_lengths f) place 0 ≡ get_or (plant_lengths (rolled_shape f k)) place 0
copied_length f k =
    at_copied (λ place. get_or (plant_lengths f) place 0 ≡ get_or (plant_lengths (rolled_shape f k)) place 0) refl refl refl refl refl refl refl

-- ---- the bodies of the plant that is left: how many, and their lengths
module _ (r : Rolled) where
  pub left_count : length (plant_bodies (left_plant r)) ≡ (plant_kind 4).sections
  unfolding rolled_plant
  left_count = bodies_count (left_plant r)

  pub twelve : length (plant_bodies (left_plant r)) ≡ 12
  unfolding plant_kind
  twelve = left_count

  pub left_lengths : map length (plant_bodies (left_plant r)) ≡ plant_lengths (left_shape r)
  unfolding rolled_plant
  left_lengths = bodies_lengths (left_plant r)

  pub body_size : (place : ℕ) → length (get_or (plant_bodies (left_plant r)) place []) ≡ get_or (plant_lengths (left_shape r)) place 0
  body_size place = sym (body_length (plant_bodies (left_plant r)) place) ∙ ap (λ (l : List ℕ). get_or l place 0) left_lengths

  pub file_size : length (file_of (plant_kind 4).number 1 (plant_bodies (left_plant r)))
      ≡ start (plant_lengths (left_shape r)) (plant_kind 4).sections
  unfolding plant_file rolled_plant
  file_size = file_length (left_plant r) ∙ ap (start (plant_lengths (left_shape r))) (kind_lengths (left_shape r))
