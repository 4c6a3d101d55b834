-- `rules::Candidate::backlog_over` meets its contract: the loop has tried the weeks below `week`, and `before` is owed before it. Assumes nothing.
use mathlib.Core.Path.{◌≡◌}
use Prim.Native.Nat.{◌/◌, ◌%◌, ◌^◌, ◌<◌}
use Rattle.mathematics.specs.Below.{all_below}
use Rattle.plant_file.specs.Accepted.{plant_in}
use Rattle.plan_file.specs.Accepted.{plan_in}
use Rattle.rules.specs.Rules.{backlog_before, backlog_at}
use Rattle.rules.proofs.Candidate.backlog_over.Given as goal

abbrev pub invariant-loop-week : goal.invariant-loop-week
invariant-loop-week l =
    let p = plant_in l.self.plant in
    let x = plan_in l.self.plan in
    (l.kept ≡ all_below l.week (backlog_at p x (l.pair / p.products) (l.pair % p.products)))
    × (l.before ≡ backlog_before p x l.week (l.pair / p.products) (l.pair % p.products))
    × (l.before < 2 ^ 32)
