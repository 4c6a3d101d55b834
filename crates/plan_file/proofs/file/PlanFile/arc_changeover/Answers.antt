-- `plan_file::file::PlanFile::arc_changeover` meets its contract. Assumes nothing.
use mathlib.Core.Path.{sym, ◌∙◌}
use Rattle.plan_file.proofs.Access.{changeover_reads, changeover_inside, changeover_below, arc_place}
use Rattle.plan_file.proofs.file.PlanFile.arc_changeover.Goals as goal

pub cell_in-requires : goal.cell_in-requires
cell_in-requires c =
    let a = c.args in
    rw c.place.ensures (changeover_inside a.table a.self.shape a.self.bytes.now a.self.accepted c.square_place-place.ensures.1)

pub returns : goal.returns
returns c =
    let a = c.args in
    let p = c.square_place-place.ensures in
    let e = rw c.place.ensures at c.cell_in.ensures in (
      e ∙ (rw (arc_place a.week a.self.shape.products a.arc p.0) (sym (changeover_reads a.table a.self.shape a.self.bytes.now a.week _ _))),
      rw e (changeover_below a.table a.self.shape a.self.bytes.now a.self.accepted p.1),
    )
