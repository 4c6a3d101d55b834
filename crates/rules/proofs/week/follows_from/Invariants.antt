-- `rules::week::follows_from` meets its contract: the loop has tried the products below `to`. Assumes nothing.
use mathlib.Core.Path.{◌≡◌}
use Rattle.mathematics.specs.Below.{all_below}
use Rattle.plan_file.specs.Accepted.{plan_in}
use Rattle.rules.specs.Products.{follows_at}
use Rattle.rules.proofs.week.follows_from.Given as goal

abbrev pub invariant-loop-to : goal.invariant-loop-to
invariant-loop-to l = l.kept ≡ all_below l.to (follows_at (plan_in l.plan).line l.week l.from)
