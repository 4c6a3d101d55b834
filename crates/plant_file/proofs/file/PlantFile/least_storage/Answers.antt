-- `plant_file::PlantFile::least_storage` meets its contract. Assumes nothing.
use Prim.Native.Nat.{◌*◌}
use borrow.Author.Rules.{rules}
use native.Mathlib.Nat.{le_trans}
use native.Mathlib.Omega.{arith}
use Rattle.plant_file.specs.Plant.{least_storage_in}
use Rattle.plant_file.proofs.PlantAccess.{held4, answer, ranges}
use Rattle.plant_file.proofs.file.PlantFile.least_storage.Goals as goal

pub returns : goal.returns
unfolding least_storage_in
returns c =
    let x = ranges c.args.self in
    answer c.cell_in.ensures (le_trans (x.storage_ordered _ c.requires) (x.storage_most _ c.requires))

pub cell_in-requires : goal.cell_in-requires
cell_in-requires c = held4 c.args.self 8 (search rules) {m = 2 * c.args.self.shape.products} (omega arith) (omega arith)
