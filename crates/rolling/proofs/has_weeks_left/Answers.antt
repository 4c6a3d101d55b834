-- `rolling::has_weeks_left` meets its contract. Assumes nothing.
use borrow.Author.Rules.{rules}
use borrow.Author.Tests.{tests}
use Rattle.model.specs.Rolled.{weeks_left}
use Rattle.rolling.proofs.has_weeks_left.Goals as goal

pub returns : goal.returns
unfolding weeks_left
returns c = search (rules, tests)
