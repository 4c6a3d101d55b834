-- `rules::week::production_end` meets its contract: the weeks from `earlier` on are shut. Assumes nothing.
use native.Mathlib.Omega.{arith}
use mathlib.Core.Path.{sym, ◌∙◌}
use Rattle.plan_file.specs.Accepted.{plan_in}
use Rattle.rules.proofs.Weeks.{end_none, end_here, end_shut}
use Rattle.rules.proofs.week.production_end.Goals as goal

pub returns-then-not-is_shut : goal.returns-then-not-is_shut
returns-then-not-is_shut c =
    let p = c.args.plan in
    let b = c.loop-earlier in
    let here = end_here p.shape.products (plan_in p).line b.earlier (omega (arith, c.loop-earlier-test.true))
    (sym c.is_shut.ensures ∙ c.if-not-is_shut.true) in
    (omega (arith, b.invariant, here), omega (arith, b.auto.earlier))

pub loop-earlier-preserved : goal.loop-earlier-preserved
loop-earlier-preserved c =
    let p = c.args.plan in
    let b = c.loop-earlier in
    b.invariant
    ∙ end_shut p.shape.products (plan_in p).line b.earlier (omega (arith, c.loop-earlier-test.true))
    (sym c.is_shut.ensures ∙ c.if-not-is_shut.false)

pub returns : goal.returns
returns c =
    let p = c.args.plan in
    let b = c.loop-earlier in
    (sym (b.invariant ∙ end_none p.shape.products (plan_in p).line b.earlier (omega (arith, c.loop-earlier-test.false))), omega arith)
