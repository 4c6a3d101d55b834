-- `plan_file::file::PlanFile::write_sales` meets its contract. Assumes nothing.
use native.Mathlib.Omega.{arith}
use mathlib.Core.Path.{refl, ◌∙◌}
use Rattle.plan_file.proofs.Access.{pairs_held}
use Rattle.plan_file.proofs.PlanReads.{sales_cube}
use Rattle.plan_file.proofs.file.PlanFile.write_sales.Goals as goal

pub copy_section-requires : goal.copy_section-requires
copy_section-requires c =
    let p = c.args.self in
    rw c.volume-numbers.ensures.0 (pairs_held p.shape p.bytes.now p.accepted 8 (omega arith) refl, c.requires)

pub returns : goal.returns
returns c =
    let p = c.args.self in
    c.copy_section.ensures ∙ rw (c.volume-numbers.ensures.0, sales_cube p.shape p.bytes.now)
