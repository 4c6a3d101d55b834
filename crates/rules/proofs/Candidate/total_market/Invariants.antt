-- `rules::Candidate::total_market` meets its contract: the loop has added the pairs below `pair`. Assumes nothing.
use mathlib.Core.Path.{◌≡◌}
use Prim.Native.Nat.{◌*◌, ◌/◌, ◌%◌, ◌^◌, ◌≤◌}
use Rattle.mathematics.specs.Below.{sum_below}
use Rattle.plant_file.specs.Accepted.{plant_in}
use Rattle.plan_file.specs.Accepted.{plan_in}
use Rattle.rules.proofs.Candidate.total_market.Given as goal

abbrev pub invariant-loop-pair : goal.invariant-loop-pair
invariant-loop-pair l =
    let p = plant_in l.self.plant in
    let x = plan_in l.self.plan in
    let n = p.products in
    (l.sales ≡ sum_below l.pair (λ k. p.price (k / n) (k % n) * sum_below p.weeks (x.sales (k / n) (k % n))))
    × (l.backlog ≡ sum_below l.pair (λ k. p.backlog_cost (k / n) (k % n) * sum_below p.weeks (x.backlog (k / n) (k % n))))
    × (l.sales ≤ l.pair * 2 ^ 54)
    × (l.backlog ≤ l.pair * 2 ^ 54)
