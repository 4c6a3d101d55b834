-- `rules::Candidate::pair_market` meets its contract: the loop has added the weeks below `week`. Assumes nothing.
use mathlib.Core.Path.{◌≡◌}
use Prim.Native.Nat.{◌*◌, ◌/◌, ◌%◌, ◌≤◌}
use Rattle.mathematics.specs.Below.{sum_below}
use Rattle.plan_file.specs.Accepted.{plan_in}
use Rattle.rules.proofs.Candidate.pair_market.Given as goal

abbrev pub invariant-loop-week : goal.invariant-loop-week
invariant-loop-week l =
    let n = l.self.plant.shape.products in
    let x = plan_in l.self.plan in
    (l.sales ≡ sum_below l.week (x.sales (l.pair / n) (l.pair % n)))
    × (l.backlog ≡ sum_below l.week (x.backlog (l.pair / n) (l.pair % n)))
    × (l.sales ≤ l.week * 4294967295)
    × (l.backlog ≤ l.week * 4294967295)
