-- `rules::Candidate::inventory_in` meets its contract. Assumes nothing.
use borrow.Author.Rules.{rules}
use borrow.Author.Tests.{tests}
use Rattle.mathematics.proofs.Ranges.{all_in_range}
use Rattle.rules.specs.Rules.{rule39}
use Rattle.rules.proofs.Candidate.inventory_in.Goals as goal

pub returns : goal.returns
unfolding rule39
returns c = all_in_range _ _ _ _ _ c.all.ensures.ran c.products.ensures (λ x b q k. search (rules, tests))
