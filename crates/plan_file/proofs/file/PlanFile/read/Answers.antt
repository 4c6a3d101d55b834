-- `plan_file::file::PlanFile::read` meets its contract. Assumes nothing.
use borrow.Author.Rules.{rules}
use native.Mathlib.Omega.{arith}
use mathlib.Core.Path.{sym, ◌∙◌}
use Rattle.plan_file.proofs.PlanReads.{plan_shape}
use Rattle.plan_file.proofs.file.PlanFile.read.Goals as goal

pub invariant_of-result : goal.invariant_of-result
invariant_of-result c =
    let e = sym c.plan_form.ensures ∙ c.in_ok-plan_form.was in
    let g = plan_shape c.args.shape c.args.bytes.now e in
    let good = rw g at e in record { accepted = grind arith; octets = search rules }
