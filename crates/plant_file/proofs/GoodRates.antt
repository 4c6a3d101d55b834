-- A list of rates is good exactly where it has N rates, each in its range. Assumes nothing.
use Prim.Native.Nat.{ℕ, ◌*◌, ◌≤◌, ◌<◌}
use mathlib.Core.Path.{◌≡◌, refl}
use mathlib.Core.List.{List}
use mathlib.Core.Logic.{◌⊎◌, inl, inr}
use lib.ListN.{length}
use lib.Dec.{eqb}
use borrow.Author.Tests.{eqb-true, eq-eqb}
use Rattle.mathematics.specs.Below.{all_below, within}
use Rattle.mathematics.proofs.Below.{all_each, each_all, within_at, at_within}
use Rattle.sections.specs.declared.Shape.{Shape}
use Rattle.sections.specs.declared.Refusal.{Refusal}
use Rattle.std.specs.Prelude.{Err, Ok}
use Rattle.sections.specs.Rows.{Form}
use Rattle.sections.specs.Limits.{most_rate}
use Rattle.sections.proofs.Rows.{row_good}
use Rattle.plant_file.specs.Rates.{listed_rate, rates_form}
use Rattle.sections.specs.declared.Refusal.TheVariants as refusal

-- what a good one has
pub rates_good : (f g : Shape) (rates : List ℕ) → rates_form f rates ≡ Ok g
    → (length rates ≡ 4 * f.products) × ((i : ℕ) → i < f.products → (1 ≤ listed_rate rates i) × (listed_rate rates i ≤ most_rate))
unfolding rates_form
rates_good f g rates h =
    let a = row_good refusal.PlantLengths (eqb (length rates) (4 * f.products)) _ g h in
    let b = row_good refusal.PlantRanges (all_below f.products (λ i. within 1 most_rate (listed_rate rates i))) _ g a.1 in
    (eqb-true _ _ a.0, λ i l. within_at 1 most_rate _ (all_each f.products (λ i. within 1 most_rate (listed_rate rates i)) b.0 i l))

-- and such a list is good
pub rates_pass : (f : Shape) (rates : List ℕ) → length rates ≡ 4 * f.products
    → ((i : ℕ) → i < f.products → (1 ≤ listed_rate rates i) × (listed_rate rates i ≤ most_rate)) → rates_form f rates ≡ Ok f
unfolding rates_form
rates_pass f rates e h =
    rw (
      eq-eqb (length rates) (4 * f.products) e,
      each_all f.products (λ i. within 1 most_rate (listed_rate rates i)) (λ i l. at_within 1 most_rate _ (h i l).0 (h i l).1),
    ) refl

-- the shape that a good one answers is the shape it was given
pub rates_shape : (f g : Shape) (rates : List ℕ) → rates_form f rates ≡ Ok g → rates_form f rates ≡ Ok f
rates_shape f g rates h = let r = rates_good f g rates h in rates_pass f rates r.0 r.1

-- a list is good, with that shape, or it is refused
pub rates_decided : (f : Shape) (rates : List ℕ) → (rates_form f rates ≡ Ok f) ⊎ ((n : Refusal) × (rates_form f rates ≡ Err n))
rates_decided f rates = go (rates_form f rates) refl
  where
    go : (r : Form) → rates_form f rates ≡ r → (rates_form f rates ≡ Ok f) ⊎ ((n : Refusal) × (rates_form f rates ≡ Err n))
    go (Ok g) e = inl (rates_shape f g rates e)
    go (Err n) e = inr (n, e)
