-- `passed_plan::mounted_product` meets its contract: the loop has looked at the products below `product`. Assumes nothing.
use mathlib.Core.Path.{◌≡◌}
use Rattle.plant_file.specs.Accepted.{plant_in}
use Rattle.plan_file.specs.Accepted.{plan_in}
use Rattle.rules.specs.Rules.{mounted_after}
use Rattle.model.specs.RunTables.{mounted_of}
use Rattle.passed_plan.proofs.mounted_product.Given as goal

abbrev pub invariant-loop-product : goal.invariant-loop-product
invariant-loop-product l =
    l.found ≡ mounted_of l.product (mounted_after (plant_in l.fn.files.plant).line (plan_in l.fn.files.plan).line l.weeks)
