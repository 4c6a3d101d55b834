-- `rules::Candidate::passages_in` meets its contract. Assumes nothing.
use borrow.Author.Rules.{rules}
use borrow.Author.Tests.{tests}
use native.Mathlib.Omega.{arith}
use Prim.Native.Nat.{ℕ, ◌<◌, ◌^◌}
use mathlib.Core.Path.{◌≡◌, ap, ◌∙◌}
use lib.ListN.{get_or}
use Rattle.std.proofs.iter.Serving.{serving}
use Rattle.mathematics.specs.Below.{sum_below}
use Rattle.mathematics.proofs.Ranges.{all_in_range}
use Rattle.plant_file.specs.Accepted.{plant_in}
use Rattle.plan_file.specs.Accepted.{plan_in}
use Rattle.rules.specs.Rules.{production_end, mounted_after, mounted_before}
use Rattle.rules.specs.Products.{passage_at}
use Rattle.rules.proofs.Candidates.{same_products, products_few, sums_same}
use Rattle.rules.proofs.ProductRules.{passages_week}
use Rattle.rules.proofs.Candidate.passages_in.Goals as goal

pub arc_sums-requires : goal.arc_sums-requires
arc_sums-requires c = (rw c.args.self.same c.requires, rw (same_products c.args.self) (products_few c.args.self))

pub all-requires-clause-callable : goal.all-requires-clause-callable
all-requires-clause-callable c =
    let few = products_few c.args.self in
    let firsts : c.week_sum-firsts.result < 2 ^ 24 = omega (arith, c.week_sum-firsts.ensures.1) in
    grind serving

pub returns : goal.returns
unfolding passage_at mounted_before
returns c =
    let s = c.args.self in
    let week = c.args.week in
    let n = s.plant.shape.products in
    let line = (plant_in s.plant).line in
    let x = (plan_in s.plan).line in
    let into : ℕ → ℕ = λ p. get_or c.arc_sums.result.into p 0 in
    let out : ℕ → ℕ = λ p. get_or c.arc_sums.result.out p 0 in
    let same = same_products s in
    let sums = sums_same same c.arc_sums.ensures in
    let weeks : c.production_end-weeks.result ≡ production_end n x week =
    c.production_end-weeks.ensures.0 ∙ ap (λ (k : ℕ). production_end k x week) same in
    let firsts : c.week_sum-firsts.result ≡ sum_below n (x.first week) =
    c.week_sum-firsts.ensures.0 ∙ ap (λ (k : ℕ). sum_below k (x.first week)) same in
    all_in_range
    (λ p. passage_at (into p) (out p) (mounted_after line x c.production_end-weeks.result p) c.mounted_sum-mounted.result c.week_sum-firsts.result x week p)
    _ _ _ _ c.all.ensures.ran c.products.ensures (λ x b q k. search (rules, tests))
    ∙ rw (c.mounted_sum-mounted.ensures.0, firsts, weeks) (passages_week n x week into out line sums.into sums.out)
