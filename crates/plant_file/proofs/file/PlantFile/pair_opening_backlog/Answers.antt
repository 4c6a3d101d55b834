-- `plant_file::PlantFile::pair_opening_backlog` meets its contract: the backlog stands after the stock of each product. Assumes nothing.
use Prim.Native.Nat.{◌+◌, ◌*◌}
use mathlib.Core.Path.{◌∙◌}
use borrow.Author.Rules.{rules}
use native.Mathlib.Omega.{arith}
use Rattle.plant_file.specs.Plant.{opening_backlog_in}
use Rattle.mathematics.proofs.Pairs.{pair_of}
use Rattle.plant_file.proofs.PlantKinds.{kind_backlog}
use Rattle.plant_file.proofs.PlantAccess.{held4, answer, ranges}
use Rattle.plant_file.proofs.file.PlantFile.pair_opening_backlog.Goals as goal

pub returns : goal.returns
unfolding opening_backlog_in
returns c =
    let p = pair_of _ _ _ c.requires in
    let most = (ranges c.args.self).opening_backlog_most _ _ p.row p.column in
    answer (c.cell_in.ensures ∙ rw (c.from.ensures, p.number))
    (omega (arith, most, kind_backlog c.args.self.shape.kind))

pub cell_in-requires : goal.cell_in-requires
cell_in-requires c = let f = c.args.self.shape in
    held4 c.args.self 9 (search rules) {m = f.products + f.customers * f.products} (omega arith) (omega arith)
