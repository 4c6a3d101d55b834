-- `rolling::roll_passed` meets its contract: at each place it is known which tests have passed. Assumes nothing.
use borrow.Author.Rules.{rules}
use mathlib.Core.Path.{◌≡◌, refl, sym, ap, ◌∙◌}
use mathlib.Core.Bool.{true}
use Rattle.sections.specs.declared.Shape.{Shape}
use Rattle.plant_file.specs.Accepted.{plant_in}
use Rattle.plant_file.specs.Rates.{listed_rate}
use Rattle.plant_file.specs.File.{plant_file}
use Rattle.plan_file.specs.Plan.{Plan, plan_of}
use Rattle.rules.specs.declared.Candidate.{Candidate}
use Rattle.plan_file.specs.Accepted.{plan_in}
use Rattle.model.specs.Rolled.{weeks_left, backlog_carried, rolled_plant}
use Rattle.model.proofs.RolledTests.{left_is}
use Rattle.calls.specs.Answer.{Answer, bytes, rolled_in, roll_passed, written_in, output_after}
use Rattle.calls.proofs.Output.{refused_as}
use Rattle.rolling.proofs.roll_passed.Goals as goal
use Rattle.rolling.proofs.roll_passed.Goals.{Else-not-has_weeks_left}
use Rattle.sections.specs.declared.Refusal.TheVariants as refusal

-- weeks are left
left : (c : Else-not-has_weeks_left) → weeks_left c.args.files.plant.shape.weeks c.args.k ≡ true
left c = sym c.has_weeks_left.ensures ∙ c.if-not-has_weeks_left.false

pub returns-then-not-has_weeks_left : goal.returns-then-not-has_weeks_left
unfolding roll_passed
returns-then-not-has_weeks_left c =
    let r = refused_as {n = refusal.WeeksLeft} (rw (sym c.has_weeks_left.ensures ∙ c.if-not-has_weeks_left.true)) (refl, refl) in
    record { result = r.0; output = r.1 }

pub returns-in_err-rates : goal.returns-in_err-rates
unfolding roll_passed
returns-in_err-rates c =
    let l = left (goal.at.returns-in_err-rates c).Else-not-has_weeks_left in
    let r = refused_as {n = c.in_err-rates.field-0.0} (rw (l, c.in_err-rates.ensures)) (search rules, refl) in
    record { result = r.0; output = r.1 }

pub invariant_of-rolled : goal.invariant_of-rolled
invariant_of-rolled c =
    let w = left_is c.args.files.plant.shape.weeks c.args.k (left (goal.at.invariant_of-rolled c).Else-not-has_weeks_left) in
    record { some = w.0; left = w.1; listed = c.in_ok-rates.ensures.1 }

-- the plan has the shape of the plant
plan_same : (x : Candidate) → plan_in x.plan ≡ plan_of x.plant.shape x.plan.bytes.now
plan_same x = ap (λ (f : Shape). plan_of f x.plan.bytes.now) x.same

pub returns-then-not-is_backlog_carried : goal.returns-then-not-is_backlog_carried
unfolding roll_passed
returns-then-not-is_backlog_carried c =
    let x = c.args.files in
    let l = left (goal.at.returns-then-not-is_backlog_carried c).Else-not-has_weeks_left in
    let over = ap (λ (plan : Plan). backlog_carried (plant_in x.plant) plan c.args.k) (sym (plan_same x))
    ∙ (sym c.is_backlog_carried.ensures ∙ c.if-not-is_backlog_carried.true) in
    let r = refused_as {n = refusal.OpeningBacklog} (rw (l, c.in_ok-rates.ensures.2, over)) (refl, refl) in
    record { result = r.0; output = r.1 }

pub returns : goal.returns
unfolding roll_passed plant_file rolled_plant
returns c =
    let a = c.args in
    let x = a.files in
    let P = plant_in x.plant in
    let out = a.out.now in
    let l = left (goal.at.returns c).Else-not-has_weeks_left in
    let carried = ap (λ (plan : Plan). backlog_carried P plan a.k) (sym (plan_same x))
    ∙ (sym c.is_backlog_carried.ensures ∙ c.if-not-is_backlog_carried.false) in
    let file : Answer = bytes (plant_file (rolled_in x.plant.shape x.plant.bytes.now x.plan.bytes.now a.k a.rates.now)) in
    let e : roll_passed x.plant.shape x.plant.bytes.now x.plan.bytes.now a.k a.rates.now ≡ file = rw (l, c.in_ok-rates.ensures.2, carried) in
    let written : bytes (plant_file (rolled_plant P (plan_in x.plan) a.k (listed_rate c.in_ok-rates.rates.bytes.now))) ≡ file =
    λ u. bytes (plant_file (rolled_plant P (plan_same x u) a.k (listed_rate (c.in_ok-rates.ensures.0 u)))) in
    record {
      result = c.write_where_room.ensures.result ∙ ap (λ (b : Answer). written_in b out) (written ∙ sym e);
      output = c.write_where_room.ensures.output ∙ ap (λ (b : Answer). output_after b out) (written ∙ sym e);
    }
