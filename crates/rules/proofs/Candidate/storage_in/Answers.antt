-- `rules::Candidate::storage_in` meets its contract. Assumes nothing.
use borrow.Author.Rules.{rules}
use borrow.Author.Tests.{tests}
use Rattle.mathematics.proofs.Ranges.{all_in_range}
use Rattle.rules.specs.Rules.{rule40}
use Rattle.rules.proofs.Candidate.storage_in.Goals as goal

pub returns : goal.returns
unfolding rule40
returns c = all_in_range _ _ _ _ _ c.all.ensures.ran c.products.ensures (λ x b q k. search (rules, tests))
