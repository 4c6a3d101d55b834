-- `rules::Candidate::total_market` meets its contract. Assumes nothing.
use native.Mathlib.Omega.{arith}
use Prim.Native.Nat.{◌*◌}
use mathlib.Core.Path.{◌≡◌, sym, ◌∙◌}
use Rattle.plant_file.specs.Accepted.{plant_in}
use Rattle.plan_file.specs.Accepted.{plan_in}
use Rattle.rules.proofs.Candidates.{pairs_few}
use Rattle.rules.proofs.Profits.{sales_by_pair, backlog_by_pair}
use Rattle.rules.proofs.Candidate.total_market.Goals as goal

pub returns : goal.returns
returns c =
    let s = c.args.self in
    let few = pairs_few s in
    let e : c.loop-pair.pair ≡ s.plant.shape.customers * s.plant.shape.products = omega (arith, c.area-pair-end.ensures.0) in
    let i = rw e at c.loop-pair.invariant in (
      i.0 ∙ sym (sales_by_pair (plant_in s.plant) (plan_in s.plan)),
      i.1 ∙ sym (backlog_by_pair (plant_in s.plant) (plan_in s.plan)),
      omega (arith, few, i.2),
      omega (arith, few, i.3),
    )
