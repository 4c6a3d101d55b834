-- `plant_file::PlantFile::rate` meets its contract. Assumes nothing.
use borrow.Author.Rules.{rules}
use native.Mathlib.Omega.{arith}
use Rattle.plant_file.specs.Plant.{rate_in}
use Rattle.plant_file.proofs.PlantAccess.{held4, ranges}
use Rattle.plant_file.proofs.file.PlantFile.rate.Goals as goal

pub returns : goal.returns
unfolding rate_in
returns c =
    let x = (ranges c.args.self).line in
    (c.cell_in.ensures, rw c.cell_in.ensures (x.rate_least _ c.requires), rw c.cell_in.ensures (x.rate_most _ c.requires))

pub cell_in-requires : goal.cell_in-requires
cell_in-requires c = held4 c.args.self 1 (search rules) (omega arith) c.requires
