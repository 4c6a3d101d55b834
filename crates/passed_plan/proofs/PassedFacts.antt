-- What a plan that passes has: good files, slots whose run gives its tables, and the line mounted before each week as the run has it.
-- Assumes nothing.
use Prim.Native.Nat.{ℕ, ◌<◌}
use mathlib.Core.Path.{◌≡◌, refl, sym, ap, ◌∙◌}
use mathlib.Core.List.{List}
use native.Mathlib.Omega.{arith}
use Rattle.mathematics.proofs.OrderTheorem.{product_at_lem}
use Rattle.numbers.specs.Number.{Bytes}
use Rattle.sections.specs.declared.Shape.{Shape}
use Rattle.std.specs.Prelude.{Err, Ok}
use Rattle.sections.specs.Rows.{Form}
use Rattle.plant_file.specs.Plant.{plant_of}
use Rattle.plant_file.specs.Form.{plant_form}
use Rattle.plant_file.specs.Ranges.{PlantRanges}
use Rattle.plant_file.proofs.PlantInRange.{plant_ranges}
use Rattle.plan_file.specs.Plan.{plan_of}
use Rattle.plan_file.specs.Form.{plan_form}
use Rattle.plan_file.proofs.PlanReads.{plan_shape, plan_fits}
use Rattle.units.specs.declared.Profit.{Profit}
use Rattle.machine.specs.Run.{after}
use Rattle.rules.specs.Rules.{week_of}
use Rattle.rules.specs.Verdict.{Verdict, verdict_of}
use Rattle.model.specs.RunTables.{mounted_at}
use Rattle.model.specs.Model.{Binary}
use Rattle.model.specs.Match.{Gives}
use Rattle.model.proofs.RuleFacts.{verdict_rules}
use Rattle.model.proofs.PlanRuns.{plan_meets}
use Rattle.model.proofs.GivenPlans.{given_mounted}
use Rattle.model.proofs.Agreement.{passing_runs, fits_binary}
use Rattle.passed_plan.specs.declared.Pass.{Pass}
use Rattle.passed_plan.specs.declared.PassedPlan.{PassedPlan}
use Rattle.passed_plan.specs.Judgement.{Judgement, after_rows, after_rules, plan_judgement, judgement_of}
use Rattle.passed_plan.specs.Shown.{week_count, week_product, week_mounted, shown_in, Ordered}

-- ---- a judgement that passes, by its parts
pub record Passing (f : Shape) (plant plan : List ℕ) (q : Profit) : Type 0 where
  pub plant_good : plant_form plant ≡ Ok f
  pub plan_good : plan_form f plan ≡ Ok f
  pub passes : verdict_of (plant_of f plant) (plan_of f plan) ≡ Ok q

rows_passed : (r : Form) (next : Shape → Judgement) (p : Pass) → after_rows r next ≡ Ok p → (g : Shape) × (r ≡ Ok g) × (next g ≡ Ok p)
rows_passed (Ok g) next p e = (g, refl, e)
rows_passed (Err n) next p e = absurd (let z : ◌≡◌ {A = ℕ} 0 1 = cc in omega arith)

rules_passed : (f : Shape) (v : Verdict) (p : Pass) → after_rules f v ≡ Ok p → (p.shape ≡ f) × (v ≡ Ok p.profit)
rules_passed f (Ok q) p e =
    let h : ◌≡◌ {A = Pass} (record { shape = f; profit = q }) p = cc in
    (ap (λ (p : Pass). p.shape) (sym h), ap (λ (p : Pass). Ok p.profit) h)
rules_passed f (Err n) p e = absurd (let z : ◌≡◌ {A = ℕ} 0 1 = cc in omega arith)

module _ (plant plan : List ℕ) where
  pub judged_passing : (p : Pass) → judgement_of plant plan ≡ Ok p → Passing p.shape plant plan p.profit
  unfolding judgement_of plan_judgement
  judged_passing p e =
      let a = rows_passed (plant_form plant) (λ f. plan_judgement f plant plan) p e in
      let f = a.0 in
      let b = rows_passed (plan_form f plan) (λ _. after_rules f (verdict_of (plant_of f plant) (plan_of f plan))) p a.2 in
      let c = rules_passed f (verdict_of (plant_of f plant) (plan_of f plan)) p b.2 in
      rw c.0 (record {
        plant_good = a.1;
        plan_good = b.1 ∙ ap Ok (plan_shape f plan b.1);
        passes = c.1;
      })

  pub passing_judged : (f : Shape) (q : Profit) → Passing f plant plan q → judgement_of plant plan ≡ Ok (record { shape = f; profit = q })
  unfolding judgement_of plan_judgement
  passing_judged f q h = rw (h.plant_good, h.plan_good, h.passes)

-- ---- what it has
pub record PassedFacts (f : Shape) (plant plan : List ℕ) : Type 0 where
  pub ranges : PlantRanges (plant_of f plant)
  pub binary : Binary (plant_of f plant) (plan_of f plan)
  pub ordered : Ordered f plan
  -- the run of the slots that it shows gives it
  pub given : Gives (plant_of f plant) (shown_in f plan) (after (plant_of f plant) (shown_in f plan) f.weeks) (plan_of f plan)
  -- and has mounted before each week what the plan says
  pub mounted : (w : ℕ) → w < f.weeks → week_mounted f plant plan w ≡ mounted_at (plant_of f plant) (shown_in f plan) w

pub passed_plan : (f : Shape) (plant plan : List ℕ) (q : Profit) → Bytes plan → Passing f plant plan q → PassedFacts f plant plan
unfolding week_count week_product week_mounted week_of
passed_plan f plant plan q bytes h =
    let P = plant_of f plant in
    let x = plan_of f plan in
    let R = plant_ranges plant f h.plant_good in
    let b = fits_binary (plan_fits f plan bytes h.plan_good).line in
    let r = (verdict_rules P x q h.passes).0 in
    let g = (passing_runs R b h.passes).0 in
    record {
      ranges = R;
      binary = b;
      ordered = record {
        good = h.plan_good;
        known = λ w k l m. (product_at_lem f.products (week_of x.line w) (plan_meets P x b r w l) k m).1;
      };
      given = g;
      mounted = given_mounted R g;
    }

-- of files that pass
pub files_passing : (x : PassedPlan) → let y = x.files in Passing y.plant.shape y.plant.bytes.now y.plan.bytes.now x.profit
files_passing x = judged_passing x.files.plant.bytes.now x.files.plan.bytes.now _ x.passes

pub files_ordered : (x : PassedPlan) → Ordered x.files.plan.shape x.files.plan.bytes.now
files_ordered x =
    let y = x.files in
    rw y.same (passed_plan y.plant.shape y.plant.bytes.now y.plan.bytes.now x.profit y.plan.octets (files_passing x)).ordered
