-- `passed_plan::product_at` meets its contract. Assumes nothing.
use borrow.Author.Rules.{rules}
use borrow.Author.Tests.{tests}
use native.Mathlib.Numerals.{add-one}
use mathlib.Core.Path.{refl, ◌∙◌}
use Prim.Native.Nat.{◌+◌}
use lib.Dec.{eqb}
use Rattle.mathematics.specs.Below.{first_below}
use Rattle.mathematics.specs.Order.{product_at}
use Rattle.plan_file.specs.Accepted.{plan_in}
use Rattle.rules.specs.Rules.{week_of}
use Rattle.passed_plan.specs.Shown.{week_product}
use Rattle.passed_plan.proofs.Firsts.{first_in_range}
use Rattle.passed_plan.proofs.product_at.Goals as goal

pub returns : goal.returns
unfolding week_product week_of product_at
returns c =
    let a = c.args in
    let at = (plan_in a.plan).line.position a.week in
    c.unwrap_or.ensures
    ∙ (first_in_range (λ i. eqb (at i) (a.k + 1)) c.from-n.result _ _ _ c.position.ensures.ran refl (λ x b q k. search (rules, tests))
    ∙ (λ u. first_below (c.from-n.ensures u) (λ i. eqb (at i) (add-one a.k u))))
