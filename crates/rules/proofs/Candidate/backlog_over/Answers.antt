-- `rules::Candidate::backlog_over` meets its contract. Assumes nothing.
use native.Mathlib.Numerals.{add-one}
use native.Mathlib.Omega.{arith}
use mathlib.Core.Path.{◌≡◌, ◌∙◌}
use mathlib.Core.Bool.{◌&&◌}
use lib.Dec.{eqb}
use Prim.Native.Nat.{◌+◌, ◌/◌, ◌%◌}
use Rattle.plant_file.specs.Accepted.{plant_in}
use Rattle.plan_file.specs.Accepted.{plan_in}
use Rattle.rules.specs.Rules.{backlog_before, backlog_at}
use Rattle.rules.proofs.Candidates.{pair_same}
use Rattle.rules.proofs.Candidate.backlog_over.Goals as goal

pub loop-week-preserved : goal.loop-week-preserved
unfolding backlog_before
loop-week-preserved c =
    let s = c.args.self in
    let n = s.plant.shape.products in
    let w = c.loop-week.week in
    let x = plan_in s.plan in
    let after = c.pair_number-after.ensures.0 ∙ pair_same s (λ i j. x.backlog i j w) c.args.pair in
    let sales = c.pair_number-sales.ensures.0 ∙ pair_same s (λ i j. x.sales i j w) c.args.pair in
    let tried : c.balanced-kept.result ≡ backlog_at (plant_in s.plant) x (c.args.pair / n) (c.args.pair % n) w =
    c.balanced-kept.ensures ∙ (λ u. eqb (after u + sales u) (c.loop-week.invariant.1 u + c.pair_demand-demand.ensures.0 u)) in
    (rw add-one (λ u. c.loop-week.invariant.0 u && tried u), rw add-one after, c.pair_number-after.ensures.1)

pub returns : goal.returns
returns c =
    let e : c.loop-week.week ≡ c.args.self.plant.shape.weeks = omega (arith, c.from-week-end.ensures) in
    rw e at c.loop-week.invariant.0
