-- `passed_plan::PassedPlan::read` meets its contract: it is known at each place what the rows and the rules have said. Assumes nothing.
use borrow.Author.Rules.{rules}
use mathlib.Core.Path.{◌≡◌, refl, sym, ap, ◌∙◌}
use Rattle.std.specs.Prelude.{Err, Ok}
use Rattle.sections.specs.declared.Shape.{Shape}
use Rattle.plant_file.specs.Plant.{plant_of}
use Rattle.plant_file.specs.Accepted.{plant_in}
use Rattle.plan_file.specs.Plan.{plan_of}
use Rattle.plan_file.specs.Form.{plan_form}
use Rattle.plan_file.specs.Accepted.{plan_in}
use Rattle.rules.specs.Verdict.{verdict_of}
use Rattle.passed_plan.specs.Judgement.{judgement_of, plan_judgement}
use Rattle.passed_plan.proofs.PassedFacts.{passing_judged}
use Rattle.passed_plan.proofs.Mapped.{mapped_ok, mapped_err}
use Rattle.passed_plan.proofs.PassedPlan.read.Goals as goal
use Rattle.passed_plan.proofs.PassedPlan.read.Goals.{In_ok-plan}

-- the plan has the shape of the plant
plan_good : (c : In_ok-plan) → plan_form c.in_ok-plant.plant.shape c.in_ok-plan.plan.bytes.now ≡ Ok c.in_ok-plant.plant.shape
plan_good c = rw c.in_ok-plan.ensures.1 at c.in_ok-plan.plan.accepted

same_verdict : (c : In_ok-plan) → let x = c.in_ok-plant.plant in let y = c.in_ok-plan.plan in
    verdict_of (plant_of x.shape x.bytes.now) (plan_of x.shape y.bytes.now) ≡ verdict_of (plant_in x) (plan_in y)
same_verdict c =
    let x = c.in_ok-plant.plant in
    let y = c.in_ok-plan.plan in
    ap (λ (f : Shape). verdict_of (plant_in x) (plan_of f y.bytes.now)) (sym c.in_ok-plan.ensures.1)

-- the files have the bytes of the call
judged_bytes : (c : In_ok-plan) → judgement_of c.args.plant.now c.args.plan.now
    ≡ judgement_of c.in_ok-plant.plant.bytes.now c.in_ok-plan.plan.bytes.now
judged_bytes c = λ u. judgement_of (sym c.in_ok-plant.ensures.0 u) ((sym c.in_ok-plan.ensures.0 u).now)

pub invariant_of-result : goal.invariant_of-result
invariant_of-result c =
    let d = (goal.at.invariant_of-result c).In_ok-plan in
    let x = c.in_ok-plant.plant in
    let y = c.in_ok-plan.plan in
    let judged : c.judge.result ≡ Ok c.in_ok-profit.profit = search (rules, mapped_ok) in
    record {
      passes = passing_judged x.bytes.now y.bytes.now x.shape c.in_ok-profit.profit (record {
        plant_good = x.accepted;
        plan_good = plan_good d;
        passes = same_verdict d ∙ (sym c.judge.ensures ∙ judged);
      });
    }

pub returns-in_err-plant : goal.returns-in_err-plant
unfolding judgement_of
returns-in_err-plant c =
    let e : c.from_residual.result ≡ Err c.in_err-plant.field-0.0 = search rules in
    rw (e, c.in_err-plant.ensures) refl

pub returns-in_err-plan : goal.returns-in_err-plan
unfolding judgement_of plan_judgement
returns-in_err-plan c =
    let e : c.from_residual-in_err-plan.result ≡ Err c.in_err-plan.field-0.0 = search rules in
    rw (e, c.in_ok-plant.ensures.1, c.in_err-plan.ensures) refl

pub returns-in_err-profit : goal.returns-in_err-profit
unfolding judgement_of plan_judgement
returns-in_err-profit c =
    let d = (goal.at.returns-in_err-profit c).In_ok-plan in
    let x = c.in_ok-plant.plant in
    let e : c.from_residual-in_err-profit.result ≡ Err c.in_err-profit.field-0.0 = search rules in
    let judged : c.judge.result ≡ Err c.in_err-profit.field-0.0 = search (rules, mapped_err) in
    let broken = same_verdict d ∙ (sym c.judge.ensures ∙ judged) in
    rw (e, judged_bytes d, x.accepted, plan_good d, broken) refl
