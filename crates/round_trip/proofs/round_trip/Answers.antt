-- `round_trip::round_trip` meets its contract, by the contracts of checking, slot return and plan writing and the demands. Assumes nothing.
use borrow.Author.Rules.{rules}
use Prim.Native.Nat.{ℕ, ◌≤◌}
use mathlib.Core.Path.{◌≡◌, sym, ap, ◌∙◌}
use native.Mathlib.Omega.{arith}
use lib.ListN.{length, take}
use lib.Seq.{length-take-le}
use Rattle.std.specs.Prelude.{Ok}
use Rattle.calls.specs.Check.{check_of}
use Rattle.calls.specs.Answer.{bytes, slot_answer, plan_answer, written_in, output_after}
use Rattle.demands.proofs.OtherDemandsHold.{first_demand}
use Rattle.round_trip.proofs.PassedPlan as passed_plan
use Rattle.round_trip.proofs.round_trip.Goals as goal
use Rattle.round_trip.proofs.round_trip.Goals.{In_ok-check_plan, In_ok-n, In_ok-length}

-- ---- what the plan is checked as, and after slot return has written n bytes
passes : (c : In_ok-check_plan) → check_of c.args.plant.now c.args.plan.now ≡ Ok c.in_ok-check_plan.field-0
passes c = sym c.check_plan.ensures ∙ c.in_ok-check_plan.was

slots_written : (c : In_ok-n) → written_in (slot_answer c.args.plant.now c.args.plan.now) c.args.slots.now ≡ Ok c.in_ok-n.n
slots_written c = sym c.slot_return.ensures.result ∙ c.in_ok-n.was

read : (c : In_ok-n) → (c.in_ok-n.n ≤ length c.slot_return.new.out)
    × (plan_answer c.args.plant.now (take c.in_ok-n.n c.slot_return.new.out) ≡ bytes c.args.plan.now)
read c =
    let a = c.args in
    passed_plan.slots_read a.plant.now a.plan.now (λ i. (c.type_inv.plan i).fits) c.in_ok-check_plan.field-0
    (sym c.check_plan.ensures ∙ c.in_ok-check_plan.was)
    a.slots.now c.slot_return.new.out c.in_ok-n.n (slots_written c) c.slot_return.ensures.output

pub slice_bounds-plan_writing-end : goal.slice_bounds-plan_writing-end
slice_bounds-plan_writing-end c = (read (goal.at.slice_bounds-plan_writing-end c).In_ok-n).0

pub slice_bounds-plan_writing-end-2 : goal.slice_bounds-plan_writing-end-2
slice_bounds-plan_writing-end-2 c = sym (length-take-le _ _ (read (goal.at.slice_bounds-plan_writing-end-2 c).In_ok-n).0)

-- ---- after plan writing has written its bytes
plan_written : (c : In_ok-length) → written_in (plan_answer c.args.plant.now (take c.in_ok-n.n c.slot_return.new.out)) c.args.again.now ≡ Ok c.in_ok-length.length
plan_written c = sym c.plan_writing.ensures.result ∙ c.in_ok-length.was

plan_read : (c : In_ok-length) → (c.in_ok-length.length ≤ length c.plan_writing.new.out)
    × (take c.in_ok-length.length c.plan_writing.new.out ≡ c.args.plan.now)
plan_read c =
    let a = c.args in
    let r =
    passed_plan.slots_read a.plant.now a.plan.now (λ i. (c.type_inv.plan i).fits) c.in_ok-check_plan.field-0
    (sym c.check_plan.ensures ∙ c.in_ok-check_plan.was)
    a.slots.now c.slot_return.new.out c.in_ok-n.n (sym c.slot_return.ensures.result ∙ c.in_ok-n.was) c.slot_return.ensures.output in
    passed_plan.written_read a.plan.now a.again.now c.plan_writing.new.out c.in_ok-length.length
    (plan_answer a.plant.now (take c.in_ok-n.n c.slot_return.new.out)) r.1 (plan_written c) c.plan_writing.ensures.output

pub slice_bounds-check_plan-end : goal.slice_bounds-check_plan-end
slice_bounds-check_plan-end c = (plan_read (goal.at.slice_bounds-check_plan-end c).In_ok-length).0

pub slice_bounds-check_plan-end-2 : goal.slice_bounds-check_plan-end-2
slice_bounds-check_plan-end-2 c = sym (length-take-le _ _ (plan_read (goal.at.slice_bounds-check_plan-end-2 c).In_ok-length).0)

-- ---- the returns: a plan that does not pass, no room for the slots, no room for the plan, a plan that comes back refused (none does), and the plan
pub returns-in_err-check_plan : goal.returns-in_err-check_plan
unfolding written_in output_after
returns-in_err-check_plan c =
    let e = sym c.check_plan.ensures ∙ c.in_err-check_plan.was in
    let s = c.args in
    let a = ((first_demand s.plant.now s.plan.now s.slots.now).refused_alike c.in_err-check_plan.field-0.0).0 e in
    record { result = rw e (search rules); slots = rw a; plan = rw a }

pub returns-in_err-n : goal.returns-in_err-n
unfolding written_in output_after
returns-in_err-n c =
    let e = passes (goal.at.returns-in_err-n c).In_ok-check_plan in
    let w = sym c.slot_return.ensures.result ∙ c.in_err-n.was in
    record { result = rw (e, w) (search rules); slots = c.slot_return.ensures.output; plan = rw w }

pub returns-in_err-length : goal.returns-in_err-length
returns-in_err-length c =
    let r = read (goal.at.returns-in_err-length c).In_ok-n in
    let e = passes (goal.at.returns-in_err-length c).In_ok-check_plan in
    let w = slots_written (goal.at.returns-in_err-length c).In_ok-n in
    let v = sym c.plan_writing.ensures.result ∙ c.in_err-length.was in
    record {
      result = rw (e, w, ← r.1, v) (search rules);
      slots = c.slot_return.ensures.output;
      plan = rw (w, ← r.1) c.plan_writing.ensures.output;
    }

pub returns-in_err-profit : goal.returns-in_err-profit
returns-in_err-profit c =
    let e = passes (goal.at.returns-in_err-profit c).In_ok-check_plan in
    let r = plan_read (goal.at.returns-in_err-profit c).In_ok-length in
    let d = sym c.check_plan-2.ensures ∙ c.in_err-profit.was in
    let f = sym e ∙ (ap (check_of c.args.plant.now) (sym r.1) ∙ d) in
    absurd (let z : ◌≡◌ {A = ℕ} 0 1 = cc in omega arith)

pub returns : goal.returns
returns c =
    let k = read (goal.at.returns c).In_ok-n in
    let e = passes (goal.at.returns c).In_ok-check_plan in
    let r = plan_read (goal.at.returns c).In_ok-length in
    let d = sym c.check_plan-2.ensures ∙ c.in_ok-profit.was in
    let same = ap (check_of c.args.plant.now) (sym r.1) ∙ d in
    let w = slots_written (goal.at.returns c).In_ok-n in
    record {
      result = rw (same, w, ← k.1, plan_written (goal.at.returns c).In_ok-length);
      slots = c.slot_return.ensures.output;
      plan = rw (w, ← k.1) c.plan_writing.ensures.output;
    }
