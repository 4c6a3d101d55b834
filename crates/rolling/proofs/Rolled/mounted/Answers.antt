-- `rolling::Rolled::mounted` meets its contract. Assumes nothing.
use mathlib.Core.Path.{sym, ap, ◌∙◌}
use Rattle.sections.specs.declared.Shape.{Shape}
use Rattle.costs.specs.Mounted.{mounted_number}
use Rattle.plan_file.specs.Plan.{plan_of}
use Rattle.plant_file.specs.Accepted.{plant_in}
use Rattle.rules.specs.Rules.{mounted_before}
use Rattle.model.specs.Rolled.{rolled_plant}
use Rattle.model.specs.RunTables.{mounted_of}
use Rattle.passed_plan.specs.Shown.{week_mounted}
use Rattle.rolling.proofs.Rolled.mounted.Goals as goal

pub returns : goal.returns
unfolding rolled_plant week_mounted
returns c =
    let r = c.args.self in
    let N = r.files.plant.shape.products in
    c.mounted_number.ensures
    ∙ ap mounted_number (c.mounted_product-mounted.ensures.0
    ∙ ap (λ (g : Shape). mounted_of N (mounted_before N (plant_in r.files.plant).line (plan_of g r.files.plan.bytes.now).line r.weeks)) (sym r.files.same))
