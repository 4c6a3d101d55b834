-- `plant_file::PlantFile::week_minutes` meets its contract. Assumes nothing.
use borrow.Author.Rules.{rules}
use native.Mathlib.Omega.{arith}
use Rattle.plant_file.specs.Plant.{week_minutes_in}
use Rattle.plant_file.proofs.PlantAccess.{held2, answer, ranges}
use Rattle.plant_file.proofs.file.PlantFile.week_minutes.Goals as goal

pub returns : goal.returns
unfolding week_minutes_in
returns c =
    answer c.cell_in.ensures (ranges c.args.self).week_most

pub cell_in-requires : goal.cell_in-requires
cell_in-requires c = held2 c.args.self 10 (search rules) {m = 2} (omega arith) (search rules)
