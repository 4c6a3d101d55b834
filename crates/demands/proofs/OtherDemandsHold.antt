-- The first and the second demand hold. Assumes nothing.
use Rattle.sections.specs.declared.Refusal.{Refusal}
use Rattle.sections.specs.declared.Refusal.TheVariants as refusal
use Prim.Native.Nat.{ℕ}
use mathlib.Core.Path.{◌≡◌, refl, ap}
use mathlib.Core.Logic.{◌↔◌}
use mathlib.Core.List.{List}
use native.Mathlib.Omega.{arith}
use Rattle.numbers.specs.Number.{Bytes}
use Rattle.sections.specs.declared.Shape.{Shape}
use Rattle.std.specs.Prelude.{Err, Ok}
use Rattle.plant_file.specs.Form.{plant_form}
use Rattle.plant_file.proofs.PlantInRange.{plant_ranges}
use Rattle.plan_file.specs.Plan.{plan_of}
use Rattle.plan_file.specs.Form.{plan_form}
use Rattle.plan_file.proofs.PlanReads.{plan_fits}
use Rattle.model.proofs.Agreement.{fits_binary}
use Rattle.model.proofs.ModelTheorem.{model_rules, passed_objective}
use Rattle.passed_plan.specs.Judgement.{Judgement, plan_judgement, judgement_of}
use Rattle.calls.specs.Check.{check_from, check_of}
use Rattle.calls.specs.Answer.{Answer, bytes, refused, judged_answer, slot_answer, plan_answer, written_in, output_after}
use Rattle.calls.proofs.Output.{too_short, refused_short}
use Rattle.demands.specs.FirstDemand.{FirstDemand, RefusalsKeep}
use Rattle.demands.specs.SecondDemand.{SecondDemand}
use Rattle.demands.proofs.ThirdDemandHolds.{check_passing, passing_check}

-- one judgement refuses both with one number
judged_alike : (j : Judgement) (file : Shape → List ℕ) (n : Refusal)
    → (check_from j ≡ Err n) ↔ (judged_answer j (λ f. bytes (file f)) ≡ refused n)
judged_alike (Ok p) file n =
    (λ e. absurd (let z : ◌≡◌ {A = ℕ} 0 1 = cc in omega arith), λ e. absurd (let z : ◌≡◌ {A = ℕ} 0 1 = cc in omega arith))
judged_alike (Err m) file n = (λ e. let i : m ≡ n = cc in ap refused i, λ e. let i : m ≡ n = cc in ap Err i)

pub first_demand : (plant plan slots : List ℕ) → FirstDemand plant plan slots
unfolding check_of slot_answer plan_answer judgement_of plan_judgement
first_demand plant plan slots =
    record {
      plant_refused = λ n e. (rw e, rw e, rw e);
      plan_refused = λ f n e h. (rw (e, h), rw (e, h));
      rule_broken = λ f n e h v. (rw (e, h, v), rw (e, h, v));
      refused_alike = λ n. judged_alike (judgement_of plant plan) _ n;
      slots_refused = λ f n e h. rw (e, h);
      run_stopped = λ f n e h r. rw (e, h, r);
    }

-- ---- a refusal leaves the output
kept : (a : Answer) (out : List ℕ) (n : Refusal) → written_in a out ≡ Err n → output_after a out ≡ out
unfolding output_after
kept (bytes b) out n e = (too_short b out (refused_short b out n e)).1
kept (refused m) out n e = refl

pub refusals_keep : (answer : Answer) (out : List ℕ) → RefusalsKeep answer out
unfolding written_in
refusals_keep answer out =
    record {
      returned = λ n e. rw e;
      too_short = λ b e. rw e (λ h. omega (arith, refused_short b out refusal.OutputLength h), λ h. (too_short b out (omega arith)).0);
      untouched = kept answer out;
    }

pub second_demand : (plant : List ℕ) (f : Shape) (plan : List ℕ) → Bytes plan → plant_form plant ≡ Ok f → plan_form f plan ≡ Ok f
    → SecondDemand plant f plan
second_demand plant f plan b accepted good =
    let R = plant_ranges plant f accepted in
    let rules = model_rules R (fits_binary (plan_fits f plan b good).line) in
    let passing = check_passing plant f accepted plan b in
    let checks = passing_check plant f accepted plan b in
    record {
      passes_exactly = (
        λ r. rules.0 (r.0, (passing r.0 r.1).passes),
        λ m. (let r = rules.1 m in (r.0, checks r.0 (record { plant_good = accepted; plan_good = good; passes = r.1 }))),
      );
      profit = λ q e. passed_objective R (plan_of f plan) (passing q e).passes;
    }
