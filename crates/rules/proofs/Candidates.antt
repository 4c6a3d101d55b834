-- A candidate: the plan has the shape of the plant, which is small. Assumes nothing.
use Prim.Native.Nat.{ℕ, ◌*◌, ◌/◌, ◌%◌, ◌≤◌}
use native.Mathlib.Nat.{mul-le-mul}
use mathlib.Core.Path.{◌≡◌, ap}
use Rattle.sections.specs.declared.Shape.{Shape}
use Rattle.plant_file.proofs.PlantAccess.{ranges}
use Rattle.plan_file.specs.Tables.{SumsOf}
use Rattle.plan_file.specs.declared.ArcSums.{ArcSums}
use Rattle.rules.specs.declared.Candidate.{Candidate}

module _ (x : Candidate) where
  pub same_products : x.plan.shape.products ≡ x.plant.shape.products
  same_products = ap (λ (f : Shape). f.products) x.same

  -- a table at the customer and the product of pair k
  pub pair_same : (table : ℕ → ℕ → ℕ) (k : ℕ)
      → table (k / x.plan.shape.products) (k % x.plan.shape.products) ≡ table (k / x.plant.shape.products) (k % x.plant.shape.products)
  pair_same table k = ap (λ (n : ℕ). table (k / n) (k % n)) same_products

  pub products_few : x.plant.shape.products ≤ 16
  products_few = (ranges x.plant).products_most

  pub weeks_few : x.plant.shape.weeks ≤ 26
  weeks_few = (ranges x.plant).weeks_most

  pub pairs_few : x.plant.shape.customers * x.plant.shape.products ≤ 128
  pairs_few = mul-le-mul (ranges x.plant).customers_most products_few

  pub arcs_few : x.plant.shape.products * x.plant.shape.products ≤ 256
  arcs_few = mul-le-mul products_few products_few

pub sums_same : {m n : ℕ} {marks : ℕ → ℕ → ℕ} {r : ArcSums} → m ≡ n → SumsOf m marks r → SumsOf n marks r
sums_same e h = rw e at h
