-- `plant_file::PlantFile::changeover_cents` meets its contract. Assumes nothing.
use borrow.Author.Rules.{rules}
use native.Mathlib.Omega.{arith}
use Rattle.plant_file.specs.Plant.{changeover_cents_in}
use Rattle.plant_file.proofs.PlantAccess.{held4, pair_answer, ranges}
use Rattle.plant_file.proofs.file.PlantFile.changeover_cents.Goals as goal

pub returns : goal.returns
unfolding changeover_cents_in
returns c = pair_answer 4 3 _ c.cell_in.ensures c.requires (ranges c.args.self).line.cents_most

pub cell_in-requires : goal.cell_in-requires
cell_in-requires c = held4 c.args.self 3 (search rules) (omega arith) c.requires
