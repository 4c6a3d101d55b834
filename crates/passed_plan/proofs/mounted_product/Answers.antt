-- `passed_plan::mounted_product` meets its contract: the two files have one shape. Assumes nothing.
use native.Mathlib.Omega.{arith}
use Prim.Native.Nat.{ℕ}
use mathlib.Core.Path.{◌≡◌, ap, ◌∙◌}
use Rattle.sections.specs.declared.Shape.{Shape}
use Rattle.plant_file.specs.Accepted.{plant_in}
use Rattle.plan_file.specs.Plan.{plan_of}
use Rattle.rules.specs.Rules.{production_end, mounted_after, mounted_before}
use Rattle.model.specs.RunTables.{mounted_of}
use Rattle.model.proofs.Changeovers.{mounted_of_below}
use Rattle.passed_plan.specs.Shown.{week_mounted}
use Rattle.passed_plan.proofs.mounted_product.Goals as goal

pub returns : goal.returns
unfolding week_mounted mounted_before
returns c =
    let x = c.args.files in
    let plan = x.plan.bytes.now in
    let mounted = mounted_after (plant_in x.plant).line in
    let N = x.plant.shape.products in
    let e : c.loop-product.product ≡ N = omega arith in
    let weeks = ap (λ (n : ℕ). mounted_of N (mounted (plan_of x.plan.shape plan).line n)) c.production_end-weeks.ensures.0 in
    let same =
    ap (λ (f : Shape). mounted_of N (mounted (plan_of f plan).line (production_end f.products (plan_of f plan).line c.args.week))) x.same in
    let found = rw e at c.loop-product.invariant ∙ (weeks ∙ same) in
    (found, rw found (mounted_of_below N _))
