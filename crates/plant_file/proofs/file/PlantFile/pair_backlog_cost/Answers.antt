-- `plant_file::PlantFile::pair_backlog_cost` meets its contract. Assumes nothing.
use borrow.Author.Rules.{rules}
use native.Mathlib.Omega.{arith}
use Rattle.plant_file.specs.Plant.{backlog_cost_in}
use Rattle.plant_file.proofs.PlantAccess.{held4, pair_answer, ranges}
use Rattle.plant_file.proofs.file.PlantFile.pair_backlog_cost.Goals as goal

pub returns : goal.returns
unfolding backlog_cost_in
returns c = pair_answer 4 6 _ c.cell_in.ensures c.requires (ranges c.args.self).backlog_cost_most

pub cell_in-requires : goal.cell_in-requires
cell_in-requires c = held4 c.args.self 6 (search rules) (omega arith) c.requires
