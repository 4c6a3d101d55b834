-- `plan_file::file::number_in` meets its contract. Assumes nothing.
use Rattle.plan_file.proofs.PlanReads.{cell_below}
use Rattle.plan_file.proofs.file.number_in.Goals as goal

pub returns : goal.returns
returns c = let e = c.cell_in.ensures in (e, rw e (cell_below _ _ _ _ (λ i. (c.type_inv.s i).fits)))
