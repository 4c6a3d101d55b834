-- Laws of the table of kinds. Assumes nothing.
use Prim.Native.Nat.{ℕ, ◌+◌, ◌≤◌, ◌<◌}
use mathlib.Core.Path.{◌≡◌, refl, sym, ap, ◌∙◌}
use mathlib.Core.Bool.{Bool, true, false, cond}
use mathlib.Core.List.{List, [], ◌∷◌, ◌++◌}
use native.Mathlib.Omega.{arith}
use lib.ListN.{length, take}
use lib.Dec.{eqb}
use Rattle.numbers.specs.Number.{digits}
use Rattle.sections.specs.Layout.{layout, lengths_of}
use Rattle.sections.specs.Limits.{most_opening_backlog}
use Rattle.sections.specs.declared.Shape.{Shape}
use Rattle.plant_file.specs.declared.PlantKind.{PlantKind}
use Rattle.plant_file.specs.Kinds.{kind_one, kind_four, plant_kind, has_mounted}
use Rattle.plant_file.specs.Plant.{Plant}
use Rattle.plant_file.specs.Form.{layout_before, all_lengths, plant_lengths}
use Rattle.plant_file.specs.File.{plant_bodies}

-- what holds of both kinds
pub each_kind : (P : PlantKind → Type 0) → P kind_one → P kind_four → (kind : ℕ) → P (plant_kind kind)
unfolding plant_kind
each_kind P one four kind = go (eqb kind 4)
  where
    go : (t : Bool) → P (cond t kind_four kind_one)
    go true = four
    go false = one

pub kind_sections : (kind : ℕ) → (11 ≤ (plant_kind kind).sections) × ((plant_kind kind).sections ≤ 12)
kind_sections = each_kind (λ k. (11 ≤ k.sections) × (k.sections ≤ 12)) (omega arith, omega arith) (omega arith, omega arith)

pub kind_number : (kind : ℕ) → (plant_kind kind).number < 256
kind_number = each_kind (λ k. k.number < 256) (omega arith) (omega arith)

-- no kind's opening backlog is more
pub kind_backlog : (kind : ℕ) → (plant_kind kind).backlog ≤ most_opening_backlog
kind_backlog = each_kind (λ k. k.backlog ≤ most_opening_backlog) (omega arith) (omega arith)

pub kind_diagonals : (kind : ℕ) → (plant_kind kind).diagonals ≡ false
kind_diagonals = each_kind (λ k. k.diagonals ≡ false) refl refl

-- a kind has as many lengths as sections
pub kind_lengths : (f : Shape) → length (plant_lengths f) ≡ (plant_kind f.kind).sections
unfolding has_mounted
kind_lengths f =
    omega (
      arith,
      each_kind (λ k. 11 + length (lengths_of (cond (eqb k.sections 12) (layout 1 1 2 ∷ []) [])) ≡ k.sections) refl refl f.kind,
    )

-- and as many bodies
pub bodies_count : (p : Plant) → length (plant_bodies p) ≡ (plant_kind p.kind).sections
unfolding plant_bodies has_mounted
bodies_count p =
    let last = digits 1 p.line.mounted ++ digits 1 p.line.shut_before in
    omega (arith, each_kind (λ k. 11 + length (cond (eqb k.sections 12) (last ∷ []) []) ≡ k.sections) refl refl p.kind)

-- its lengths are the first of all
pub kind_takes : (f : Shape) → take (plant_kind f.kind).sections (all_lengths f) ≡ plant_lengths f
unfolding has_mounted
kind_takes f =
    each_kind (λ k. take k.sections (all_lengths f) ≡ lengths_of (layout_before f (cond (eqb k.sections 12) (layout 1 1 2 ∷ []) [])))
    refl refl f.kind

-- the same of an entry of the table and the lengths, as functions give them
module _ (f : Shape) (k : PlantKind) (all : List ℕ) (e : k ≡ plant_kind f.kind) (l : all ≡ all_lengths f) where
  pub first_lengths : take k.sections all ≡ plant_lengths f
  first_lengths = (λ u. take (e u).sections (l u)) ∙ kind_takes f

  pub first_count : k.sections ≡ length (take k.sections all)
  first_count = ap (λ (x : PlantKind). x.sections) e ∙ sym (ap length first_lengths ∙ kind_lengths f)

  pub first_few : k.sections ≤ length all
  first_few = omega (arith, ap (λ (x : PlantKind). x.sections) e, ap length l, (kind_sections f.kind).1)

-- which kind has section 12
pub more_sections : (kind : ℕ) → 11 < (plant_kind kind).sections → has_mounted kind ≡ true
unfolding has_mounted
more_sections = each_kind (λ k. 11 < k.sections → eqb k.sections 12 ≡ true) (λ l. absurd (omega arith)) (λ l. refl)

pub has_section : (kind : ℕ) → kind ≡ 4 → has_mounted kind ≡ true
unfolding has_mounted plant_kind
has_section kind e = rw e refl

pub has_none : (kind : ℕ) → kind ≡ 1 → has_mounted kind ≡ false
unfolding has_mounted plant_kind
has_none kind e = rw e refl
