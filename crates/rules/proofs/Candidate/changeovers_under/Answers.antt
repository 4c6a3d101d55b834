-- `rules::Candidate::changeovers_under` meets its contract. Assumes nothing.
use native.Mathlib.Omega.{arith}
use Prim.Native.Nat.{◌*◌}
use mathlib.Core.Path.{◌≡◌, ◌∙◌}
use Rattle.mathematics.proofs.Tables.{sum_table}
use Rattle.plant_file.specs.Accepted.{plant_in}
use Rattle.plan_file.specs.Accepted.{plan_in}
use Rattle.plan_file.specs.Tables.{changeover_table_of}
use Rattle.costs.specs.Changeover.{changeover_between}
use Rattle.rules.specs.Rules.{changeovers_under}
use Rattle.rules.proofs.Candidates.{arcs_few}
use Rattle.rules.proofs.Candidate.changeovers_under.Goals as goal

pub overflow_add-cents : goal.overflow_add-cents
overflow_add-cents c =
    omega (
      arith,
      c.loop-arc.invariant.3,
      c.charged-taken.ensures.3,
      c.changeover.ensures.cents_most,
      c.loop-arc-test.true,
      c.area-arc-end.ensures.0,
      arcs_few c.args.self,
    )

pub returns : goal.returns
unfolding changeovers_under
returns c =
    let s = c.args.self in
    let n = s.plant.shape.products in
    let line = (plant_in s.plant).line in
    let marks = changeover_table_of c.args.table (plan_in s.plan).line c.args.week in
    let e : c.loop-arc.arc ≡ n * n = omega (arith, c.area-arc-end.ensures.0) in
    let i = rw e at c.loop-arc.invariant in (
      c.from.ensures ∙ rw (sum_table n n (λ i j. marks i j * changeover_between line.changeover_minutes i j)) i.0,
      c.from-2.ensures ∙ rw (sum_table n n (λ i j. marks i j * changeover_between line.changeover_cents i j)) i.1,
      omega (arith, c.from.ensures, i.2, arcs_few s),
      omega (arith, c.from-2.ensures, i.3, arcs_few s),
    )
