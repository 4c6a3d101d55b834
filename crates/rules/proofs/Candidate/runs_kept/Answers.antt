-- `rules::Candidate::runs_kept` meets its contract. Assumes nothing.
use borrow.Author.Rules.{rules}
use borrow.Author.Tests.{tests}
use Rattle.mathematics.proofs.Ranges.{all_in_range}
use Rattle.rules.proofs.Candidate.runs_kept.Goals as goal

pub returns : goal.returns
returns c =
    all_in_range _ _ _ _ _ c.all.ensures.ran c.weeks.ensures (λ x b q k. search (rules, tests))
