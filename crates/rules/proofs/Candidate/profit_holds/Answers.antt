-- `rules::Candidate::profit_holds` meets its contract. Assumes nothing.
use native.Mathlib.Omega.{arith}
use Prim.Native.Nat.{◌+◌}
use mathlib.Core.Path.{◌∙◌}
use Rattle.plant_file.specs.Accepted.{plant_in}
use Rattle.plan_file.specs.Accepted.{plan_in}
use Rattle.rules.proofs.Profits.{profit_back, rule41_is}
use Rattle.rules.proofs.Candidate.profit_holds.Goals as goal

pub returns : goal.returns
returns c =
    let s = c.args.self in
    let gained = c.total_market-market.ensures in
    c.is_profit.ensures
    ∙ rule41_is (plant_in s.plant) (plan_in s.plan) _ _ (c.running_costs-costs.result.0 + c.total_market-market.result.backlog.0)
    (profit_back _ _ s.plan.octets s.plan.accepted c.profit.ensures) gained.0 (omega (arith, c.running_costs-costs.ensures.0, gained.1))
