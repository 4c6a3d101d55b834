-- `plant_file::PlantFile::shortest_run` meets its contract. Assumes nothing.
use borrow.Author.Rules.{rules}
use native.Mathlib.Nat.{le_trans}
use native.Mathlib.Omega.{arith}
use Rattle.plant_file.specs.Plant.{shortest_run_in}
use Rattle.plant_file.proofs.PlantAccess.{held2, ranges}
use Rattle.plant_file.proofs.file.PlantFile.shortest_run.Goals as goal

pub returns : goal.returns
unfolding shortest_run_in
returns c =
    let x = ranges c.args.self in
    (c.cell_in.ensures, rw c.cell_in.ensures x.shortest_least, rw c.cell_in.ensures (le_trans x.shortest_most x.week_most))

pub cell_in-requires : goal.cell_in-requires
cell_in-requires c = held2 c.args.self 10 (search rules) {m = 2} (omega arith) (search rules)
