-- `plant_file::PlantFile::greatest_storage` meets its contract. Assumes nothing.
use Prim.Native.Nat.{◌*◌}
use borrow.Author.Rules.{rules}
use native.Mathlib.Omega.{arith}
use Rattle.plant_file.specs.Plant.{greatest_storage_in}
use Rattle.plant_file.proofs.PlantAccess.{held4, answer, ranges}
use Rattle.plant_file.proofs.file.PlantFile.greatest_storage.Goals as goal

pub returns : goal.returns
unfolding greatest_storage_in
returns c =
    answer c.cell_in.ensures ((ranges c.args.self).storage_most _ c.requires)

pub cell_in-requires : goal.cell_in-requires
cell_in-requires c = held4 c.args.self 8 (search rules) {m = 2 * c.args.self.shape.products} (omega arith) (omega arith)
