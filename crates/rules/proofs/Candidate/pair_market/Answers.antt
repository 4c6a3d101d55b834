-- `rules::Candidate::pair_market` meets its contract. Assumes nothing.
use native.Mathlib.Omega.{arith}
use Prim.Native.Nat.{◌*◌}
use mathlib.Core.Path.{◌≡◌, ◌∙◌}
use Rattle.rules.proofs.Candidates.{weeks_few}
use Rattle.rules.proofs.Candidate.pair_market.Goals as goal

pub returns : goal.returns
returns c =
    let s = c.args.self in
    let few = weeks_few s in
    let e : c.loop-week.week ≡ s.plant.shape.weeks = omega (arith, c.from-week-end.ensures) in
    let i = rw e at c.loop-week.invariant in (
      c.charge.ensures.0 ∙ (λ u. c.pair_price.ensures.0 u * i.0 u),
      c.charge-2.ensures.0 ∙ (λ u. c.pair_backlog_cost.ensures.0 u * i.1 u),
      omega (arith, c.charge.ensures.1, i.2),
      omega (arith, c.charge-2.ensures.1, i.3),
    )
