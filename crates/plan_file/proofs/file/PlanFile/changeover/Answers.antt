-- `plan_file::file::PlanFile::changeover` meets its contract. Assumes nothing.
use mathlib.Core.Path.{◌∙◌}
use Rattle.mathematics.proofs.Pairs.{table_at}
use Rattle.plan_file.specs.Accepted.{plan_in}
use Rattle.plan_file.specs.Tables.{changeover_table_of}
use Rattle.plan_file.proofs.file.PlanFile.changeover.Goals as goal

pub returns : goal.returns
returns c =
    let a = c.args in
    let r = c.arc_changeover.ensures in
    (r.0 ∙ table_at (changeover_table_of a.table (plan_in a.self).line a.week) c.index2.ensures.0 c.requires.2, r.1)
