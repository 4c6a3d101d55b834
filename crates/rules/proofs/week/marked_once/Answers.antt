-- `rules::week::marked_once` meets its contract. Assumes nothing.
use borrow.Author.Rules.{rules}
use borrow.Author.Tests.{tests, eq-eqb, ne_eqb}
use mathlib.Core.Path.{sym, ◌∙◌}
use Rattle.mathematics.specs.Week.{marked_once}
use Rattle.mathematics.proofs.Ranges.{all_in_range}
use Rattle.rules.proofs.week.marked_once.Goals as goal

pub returns-then-week_sum-eq1 : goal.returns-then-week_sum-eq1
unfolding marked_once
returns-then-week_sum-eq1 c =
    rw (eq-eqb _ 1 (sym c.week_sum.ensures.0 ∙ c.if-week_sum-eq1.true))
    (all_in_range _ _ _ _ _ c.all.ensures.ran (λ u. record { start = 0; end = c.from.ensures u }) (λ x b q k. search (rules, tests)))

pub returns-else-week_sum-eq1 : goal.returns-else-week_sum-eq1
unfolding marked_once
returns-else-week_sum-eq1 c =
    let other = ne_eqb _ 1 c.if-week_sum-eq1.false in rw (other, rw c.week_sum.ensures.0 at other)
