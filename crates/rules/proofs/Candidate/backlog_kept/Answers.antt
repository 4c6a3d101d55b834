-- `rules::Candidate::backlog_kept` meets its contract. Assumes nothing.
use borrow.Author.Rules.{rules}
use borrow.Author.Tests.{tests}
use Rattle.mathematics.proofs.Ranges.{all_in_range}
use Rattle.rules.proofs.ProductRules.{backlog_weeks}
use Rattle.rules.proofs.Candidate.backlog_kept.Goals as goal

pub returns : goal.returns
returns c =
    rw (← (backlog_weeks _ _ _))
    (all_in_range _ _ _ _ _ c.all.ensures.ran (λ u. record { start = 0; end = c.area.ensures.0 u }) (λ x b q k. search (rules, tests)))
