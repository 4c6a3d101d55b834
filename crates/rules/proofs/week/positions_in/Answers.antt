-- `rules::week::positions_in` meets its contract. Assumes nothing.
use borrow.Author.Rules.{rules}
use borrow.Author.Tests.{tests}
use Rattle.mathematics.proofs.Ranges.{all_in_range}
use Rattle.rules.proofs.ProductRules.{positions_week}
use Rattle.rules.proofs.week.positions_in.Goals as goal

pub returns : goal.returns
returns c =
    rw (positions_week _ _ _, ← c.week_sum-made.ensures.0)
    (all_in_range _ _ _ _ _ c.all.ensures.ran (λ u. record { start = 0; end = c.from.ensures u }) (λ x b q k. search (rules, tests)))
