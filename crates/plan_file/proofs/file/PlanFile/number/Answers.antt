-- `plan_file::file::PlanFile::number` meets its contract. Assumes nothing.
use mathlib.Core.Path.{sym, ◌∙◌}
use Rattle.plan_file.proofs.Access.{product_reads, product_inside, product_below}
use Rattle.plan_file.proofs.file.PlanFile.number.Goals as goal

pub number_in-requires : goal.number_in-requires
number_in-requires c =
    let a = c.args in
    rw (c.place.ensures, c.width.ensures) (product_inside a.table a.self.shape a.self.bytes.now a.self.accepted c.index2-place.ensures.1)

pub returns : goal.returns
returns c =
    let a = c.args in
    let i = c.index2-place.ensures in
    let e = rw (c.place.ensures, c.width.ensures) at c.number_in.ensures in (
      e.0 ∙ rw i.0 (sym (product_reads a.table a.self.shape a.self.bytes.now a.week a.product)),
      rw e.0 (product_below a.table a.self.shape a.self.bytes.now a.self.accepted i.1 (rw e.0 at e.1)),
    )
