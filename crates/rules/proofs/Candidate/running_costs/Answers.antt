-- `rules::Candidate::running_costs` meets its contract. Assumes nothing.
use native.Mathlib.Omega.{arith}
use mathlib.Core.Path.{◌≡◌}
use Rattle.rules.proofs.Candidates.{weeks_few}
use Rattle.rules.proofs.Candidate.running_costs.Goals as goal

pub overflow_add-sum-in-loop-week : goal.overflow_add-sum-in-loop-week
overflow_add-sum-in-loop-week c =
    let few = weeks_few c.args.self in
    omega (arith, c.loop-week.invariant.1, c.loop-week-test.true, c.from-week-end.ensures, c.changeover_charge-over.ensures.1, c.inventory_charge-held.ensures.1)

pub returns : goal.returns
returns c =
    let s = c.args.self in
    let e : c.loop-week.week ≡ s.plant.shape.weeks = omega (arith, c.from-week-end.ensures) in
    let i = rw e at c.loop-week.invariant in
    (i.0, omega (arith, i.1, weeks_few s))
