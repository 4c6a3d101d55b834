-- `rules::week::production_end` meets its contract: the weeks from `earlier` on are shut. Assumes nothing.
use mathlib.Core.Path.{◌≡◌}
use Rattle.plan_file.specs.Accepted.{plan_in}
use Rattle.rules.specs.Rules.{production_end}
use Rattle.rules.proofs.week.production_end.Given as goal

abbrev pub invariant-loop-earlier : goal.invariant-loop-earlier
invariant-loop-earlier l =
    let x = (plan_in l.plan).line in
    production_end l.plan.shape.products x l.week ≡ production_end l.plan.shape.products x l.earlier
