-- `rules::week::sequence_in` meets its contract. Assumes nothing.
use borrow.Author.Rules.{rules}
use borrow.Author.Tests.{tests}
use mathlib.Core.Path.{◌∙◌}
use Prim.Native.Nat.{ℕ}
use lib.ListN.{get_or}
use Rattle.mathematics.proofs.Ranges.{all_in_range}
use Rattle.plan_file.specs.Accepted.{plan_in}
use Rattle.rules.specs.Products.{sequence_at}
use Rattle.rules.proofs.ProductRules.{sequence_week}
use Rattle.rules.proofs.week.sequence_in.Goals as goal

pub returns : goal.returns
returns c =
    let a = c.args in
    let line = (plan_in a.plan).line in
    let into : ℕ → ℕ = λ p. get_or c.arc_sums.result.into p 0 in
    let out : ℕ → ℕ = λ p. get_or c.arc_sums.result.out p 0 in
    all_in_range (λ p. sequence_at (into p) (out p) line a.week p) _ _ _ _ c.all.ensures.ran
    (λ u. record { start = 0; end = c.from.ensures u }) (λ x b q k. search (rules, tests))
    ∙ sequence_week a.plan.shape.products line a.week into out c.arc_sums.ensures.into c.arc_sums.ensures.out
