-- `plant_file::PlantFile::pair_price` meets its contract. Assumes nothing.
use borrow.Author.Rules.{rules}
use native.Mathlib.Omega.{arith}
use Rattle.plant_file.specs.Plant.{price_in}
use Rattle.plant_file.proofs.PlantAccess.{held4, pair_answer, ranges}
use Rattle.plant_file.proofs.file.PlantFile.pair_price.Goals as goal

pub returns : goal.returns
unfolding price_in
returns c = pair_answer 4 5 _ c.cell_in.ensures c.requires (ranges c.args.self).price_most

pub cell_in-requires : goal.cell_in-requires
cell_in-requires c = held4 c.args.self 5 (search rules) (omega arith) c.requires
