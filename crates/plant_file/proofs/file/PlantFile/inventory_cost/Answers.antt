-- `plant_file::PlantFile::inventory_cost` meets its contract. Assumes nothing.
use borrow.Author.Rules.{rules}
use native.Mathlib.Omega.{arith}
use Rattle.plant_file.specs.Plant.{inventory_cost_in}
use Rattle.plant_file.proofs.PlantAccess.{held4, answer, ranges}
use Rattle.plant_file.proofs.file.PlantFile.inventory_cost.Goals as goal

pub returns : goal.returns
unfolding inventory_cost_in
returns c =
    answer c.cell_in.ensures ((ranges c.args.self).inventory_cost_most _ c.requires)

pub cell_in-requires : goal.cell_in-requires
cell_in-requires c = held4 c.args.self 7 (search rules) (omega arith) c.requires
