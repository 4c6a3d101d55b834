-- What the files of a run hold together. Assumes nothing.
use Prim.Native.Nat.{◌≤◌}
use mathlib.Core.Path.{◌≡◌, sym, ap, ◌∙◌}
use native.Mathlib.Omega.{arith}
use Rattle.sections.specs.declared.Shape.{Shape}
use Rattle.plant_file.specs.Plant.{plant_of}
use Rattle.plant_file.specs.Accepted.{plant_in}
use Rattle.slot_file.specs.declared.SlotFile.{SlotFile}
use Rattle.plan_writing.specs.Files.{ran_plant}
use Rattle.plan_writing.specs.declared.RanFiles.{RanFiles}
use Rattle.plan_writing.specs.declared.RanWeek.{RanWeek}
use Rattle.plan_writing.proofs.RunWeeks.{few_products, week_row}
use Rattle.plan_writing.proofs.WeekRows.{RunWeek}

module _ (files : RanFiles) where
  -- one shape
  pub plant_shape : files.plant.shape ≡ files.slots.shape
  plant_shape = let e = files.plant.accepted in let d = files.ran.plant_good in cc

  pub products_same : files.plant.shape.products ≡ files.slots.shape.products
  products_same = ap (λ (f : Shape). f.products) plant_shape

  pub plant_is : plant_in files.plant ≡ ran_plant files
  plant_is = ap (λ (f : Shape). plant_of f files.plant.bytes.now) plant_shape

module _ (x : RanWeek) where
  -- no week has a product twice
  pub runs : RunWeek x.row
  runs =
      let files = x.files in
      week_row files.slots.shape files.plant.bytes.now files.slots.bytes.now files.ran x.row (ap (λ (file : SlotFile). file.shape) x.same)
      (ap (λ (file : SlotFile). file.bytes.now) x.same) x.known

  pub row_products : x.row.file.shape.products ≡ x.files.slots.shape.products
  row_products = ap (λ (file : SlotFile). file.shape.products) x.same

  pub plant_products : x.files.plant.shape.products ≡ x.row.file.shape.products
  plant_products = products_same x.files ∙ sym row_products

  pub few_row : x.row.file.shape.products ≤ 16
  few_row = omega (arith, row_products, few_products x.files.slots.shape x.files.plant.bytes.now x.files.ran.plant_good)
