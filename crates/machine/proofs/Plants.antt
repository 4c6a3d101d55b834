-- A good plant's counts. Assumes nothing.
use Prim.Native.Nat.{ℕ, ◌*◌, ◌≤◌, ◌<◌}
use mathlib.Core.Path.{◌≡◌}
use mathlib.Core.List.{List}
use native.Mathlib.Omega.{arith}
use native.Mathlib.Nat.{mul-le-mul}
use Rattle.sections.specs.declared.Shape.{Shape}
use Rattle.std.specs.Prelude.{Ok}
use Rattle.plant_file.specs.Form.{plant_form}
use Rattle.plant_file.specs.declared.file.PlantFile.{PlantFile}
use Rattle.plant_file.proofs.PlantInRange.{plant_ranges}

-- N ≤ 16, C ≤ 8, W ≤ 26, so there are at most 128 pairs of customer and product
pub record Counts (f : Shape) : Type 0 where
  pub products : f.products ≤ 16
  pub customers : f.customers ≤ 8
  pub weeks : f.weeks ≤ 26
  pub pairs : f.customers * f.products ≤ 128

pub counts : (s : List ℕ) (f : Shape) → plant_form s ≡ Ok f → Counts f
counts s f good =
    let r = plant_ranges s f good in
    record { products = r.products_most; customers = r.customers_most; weeks = r.weeks_most; pairs = mul-le-mul r.customers_most r.products_most }

module _ (plant : PlantFile) where
  pub few : Counts plant.shape
  few = counts plant.bytes.now plant.shape plant.accepted

  -- a product and a pair have places in the arrays
  pub product_place : (i : ℕ) → i < plant.shape.products → i < 16
  product_place i l = omega (arith, few.products)

  pub pair_place : (k : ℕ) → k < plant.shape.customers * plant.shape.products → k < 128
  pair_place k l = omega (arith, few.pairs)
