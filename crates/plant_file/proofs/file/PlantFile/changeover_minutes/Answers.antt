-- `plant_file::PlantFile::changeover_minutes` meets its contract. Assumes nothing.
use borrow.Author.Rules.{rules}
use native.Mathlib.Omega.{arith}
use Rattle.plant_file.specs.Plant.{changeover_minutes_in}
use Rattle.plant_file.proofs.PlantAccess.{held2, pair_answer, ranges}
use Rattle.plant_file.proofs.file.PlantFile.changeover_minutes.Goals as goal

pub returns : goal.returns
unfolding changeover_minutes_in
returns c = pair_answer 2 2 _ c.cell_in.ensures c.requires (ranges c.args.self).line.minutes_most

pub cell_in-requires : goal.cell_in-requires
cell_in-requires c = held2 c.args.self 2 (search rules) (omega arith) c.requires
