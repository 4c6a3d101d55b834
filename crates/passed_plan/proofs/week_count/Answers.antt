-- `passed_plan::week_count` meets its contract: each E is at most 1. Assumes nothing.
use native.Mathlib.Omega.{arith}
use Rattle.mathematics.proofs.Tables.{sum_most}
use Rattle.plan_file.specs.Accepted.{plan_in}
use Rattle.plan_file.proofs.PlanReads.{plan_fits}
use Rattle.rules.specs.Rules.{week_of}
use Rattle.passed_plan.specs.Shown.{week_count}
use Rattle.passed_plan.proofs.week_count.Goals as goal

pub returns : goal.returns
unfolding week_count week_of
returns c =
    let x = c.args.plan in
    let assigned = (plan_in x).line.assigned c.args.week in
    let fits = (plan_fits x.shape x.bytes.now x.octets x.accepted).line in
    let most = sum_most x.shape.products 1 assigned (λ i l. let h = fits.assigned c.args.week i c.requires l in omega arith) in
    (c.week_sum.ensures.0, omega (arith, most, c.week_sum.ensures.0))
