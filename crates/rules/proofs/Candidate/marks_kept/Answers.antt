-- `rules::Candidate::marks_kept` meets its contract. Assumes nothing.
use borrow.Author.Rules.{rules}
use borrow.Author.Tests.{tests}
use Rattle.mathematics.proofs.Ranges.{all_in_range}
use Rattle.mathematics.specs.Week.{rule31}
use Rattle.plan_file.specs.Accepted.{plan_in}
use Rattle.rules.specs.Rules.{week_of}
use Rattle.rules.proofs.Candidates.{same_products}
use Rattle.rules.proofs.Candidate.marks_kept.Goals as goal

pub returns : goal.returns
returns c =
    rw (← (same_products c.args.self))
    (all_in_range (λ w. rule31 c.args.self.plan.shape.products (week_of (plan_in c.args.self.plan).line w)) _ _ _ _ c.all.ensures.ran c.weeks.ensures (λ x b q k. search (rules, tests)))
