-- `plant_file::PlantFile::opening_inventory` meets its contract. Assumes nothing.
use borrow.Author.Rules.{rules}
use native.Mathlib.Omega.{arith}
use Rattle.plant_file.specs.Plant.{opening_inventory_in}
use Rattle.plant_file.proofs.PlantAccess.{held4, answer, ranges}
use Rattle.plant_file.proofs.file.PlantFile.opening_inventory.Goals as goal

pub returns : goal.returns
unfolding opening_inventory_in
returns c =
    answer c.cell_in.ensures ((ranges c.args.self).opening_inventory_most _ c.requires)

pub cell_in-requires : goal.cell_in-requires
cell_in-requires c = held4 c.args.self 9 (search rules) (omega arith) c.requires
