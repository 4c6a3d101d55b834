-- Two accepted plant files with the same numbers, but for whether the week before was shut, get the same answers. Assumes nothing.
use Prim.Native.Nat.{ℕ, ◌+◌}
use mathlib.Core.Path.{◌≡◌, refl, ap, ◌∙◌}
use mathlib.Core.List.{List, ◌++◌}
use native.Mathlib.Omega.{arith}
use lib.Dec.{leb}
use Rattle.mathematics.proofs.Tables.{all_ext}
use Rattle.numbers.specs.Number.{Bytes}
use Rattle.sections.specs.Limits.{most_opening_backlog}
use Rattle.sections.specs.declared.Shape.{Shape}
use Rattle.std.specs.Prelude.{Err, Ok}
use Rattle.sections.specs.Rows.{Form}
use Rattle.rules.specs.Verdict.{Verdict}
use Rattle.plant_file.specs.Same.{SamePlant}
use Rattle.plant_file.specs.Plant.{plant_of}
use Rattle.plant_file.specs.Form.{plant_form}
use Rattle.plant_file.specs.Rates.{listed_rate, rates_form}
use Rattle.plant_file.proofs.SamePlantFiles.{same_file as same-plant-file}
use Rattle.plan_file.specs.Plan.{Plan, plan_of}
use Rattle.plan_file.specs.Form.{plan_form}
use Rattle.plan_file.specs.File.{plan_file}
use Rattle.plan_file.proofs.SamePlans.{same_file}
use Rattle.slot_file.specs.Slots.{slots_of}
use Rattle.slot_file.specs.Form.{slot_form}
use Rattle.slot_file.specs.File.{slot_file}
use Rattle.slot_file.proofs.SlotReads.{slots_formed, slot_shape}
use Rattle.costs.specs.Mounted.{mounted_number}
use Rattle.machine.specs.Run.{run}
use Rattle.rules.specs.Rules.{production_end, mounted_before}
use Rattle.model.specs.RunTables.{mounted_of, run_tables}
use Rattle.model.specs.Rolled.{weeks_left, backlog_carried, rolled_plant}
use Rattle.passed_plan.specs.Judgement.{Judgement, after_rows, after_rules, plan_judgement, judgement_of}
use Rattle.passed_plan.specs.Shown.{shown_in}
use Rattle.passed_plan.proofs.PassedFacts.{judged_passing, passed_plan}
use Rattle.calls.specs.Check.{check_from, check_of}
use Rattle.calls.specs.Answer.{bytes, form_answer, judged_answer, run_answer, test_answer, slot_answer, plan_answer, roll_passed, roll_answer}
use Rattle.report.specs.Report.{first_line, lines_of, report_text}
use Rattle.demands.specs.OpeningMounted.{SameAnswers}
use Rattle.demands.proofs.SameVerdicts.{mounted_same, backlog_before_same, inventory_before_same, verdict_same}
use Rattle.demands.proofs.SamePlants.{same_run, same_tables, same_lines}
use Rattle.sections.specs.declared.Refusal.TheVariants as refusal

module _ (f : Shape) (a b : List ℕ) (good : plant_form a ≡ Ok f) (other : plant_form b ≡ Ok f)
    (same : SamePlant (plant_of f a) (plant_of f b)) where
  judged_same : (plan : List ℕ) → judgement_of a plan ≡ judgement_of b plan
  unfolding judgement_of plan_judgement
  judged_same plan =
      rw (good, other) (ap (λ (v : Verdict). after_rows (plan_form f plan) (λ _. after_rules f v)) (verdict_same f a b same (plan_of f plan)))

  -- the lines of a plan that passes are those of its slots
  lines_same : (plan : List ℕ) → Bytes plan → (j : Judgement) → judgement_of a plan ≡ j → lines_of j a plan ≡ lines_of j b plan
  lines_same plan t (Err n) e = refl
  lines_same plan t (Ok p) e =
      let h = judged_passing a plan p e in
      let alike = h.plant_good in
      let s : p.shape ≡ f = cc in
      rw s (same_lines f a b same good (shown_in f plan) (passed_plan f a plan p.profit t (rw s at h)).given.formed)

  plan_same : (slots : List ℕ) → plan_answer a slots ≡ plan_answer b slots
  unfolding plan_answer
  plan_same slots = rw (good, other) (go (slot_form f slots) refl)
    where
      go : (r : Form) → slot_form f slots ≡ r
          → form_answer r (λ _. run_answer (run (plant_of f a) (slots_of f slots)).outcome (bytes (plan_file f (run_tables (plant_of f a) (slots_of f slots)))))
          ≡ form_answer r (λ _. run_answer (run (plant_of f b) (slots_of f slots)).outcome (bytes (plan_file f (run_tables (plant_of f b) (slots_of f slots)))))
      go (Err n) e = refl
      go (Ok g) e =
          let formed = slots_formed f slots (e ∙ ap Ok (slot_shape f g slots e)) in
          let step = same_run f a b same good (slots_of f slots) formed in
          let file = same_file f _ _ (same_tables f a b same good (slots_of f slots) formed) in
          λ u. run_answer (step u).outcome (bytes (file u))

  -- rolled on by a plan's tables
  rolled_same : (x : Plan) (k : ℕ) (rate : ℕ → ℕ) → SamePlant (rolled_plant (plant_of f a) x k rate) (rolled_plant (plant_of f b) x k rate)
  unfolding rolled_plant mounted_before
  rolled_same x k rate =
      record {
        rate = λ i l. refl;
        changeover_minutes = same.changeover_minutes;
        changeover_cents = same.changeover_cents;
        mounted = λ u. mounted_number (mounted_of f.products (mounted_same f a b same x (production_end f.products x.line k) u));
        demand = λ c i w x y z. same.demand c i (k + w) x y (omega arith);
        price = same.price;
        backlog_cost = same.backlog_cost;
        inventory_cost = same.inventory_cost;
        least_storage = same.least_storage;
        greatest_storage = same.greatest_storage;
        opening_inventory = inventory_before_same f a b same x k;
        opening_backlog = backlog_before_same f a b same x k;
        shortest_run = same.shortest_run;
        week_minutes = same.week_minutes;
      }

  passed_same : (plan : List ℕ) (k : ℕ) (rates : List ℕ) → roll_passed f a plan k rates ≡ roll_passed f b plan k rates
  unfolding roll_passed backlog_carried rolled_plant
  passed_same plan k rates =
      let x = plan_of f plan in
      let carried = all_ext f.customers _ _ (λ c j. all_ext f.products _ _ (λ i l u.
      leb (backlog_before_same f a b same x k c i j l u) most_opening_backlog)) in
      let file = same-plant-file _ _ refl (rolled_same x k (listed_rate rates)) refl in
      λ u. test_answer refusal.WeeksLeft (weeks_left f.weeks k) (form_answer (rates_form f rates) (λ _. test_answer refusal.OpeningBacklog (carried u) (bytes (file u))))

  roll_same : (plan : List ℕ) (k : ℕ) (rates : List ℕ) → roll_answer a plan k rates ≡ roll_answer b plan k rates
  unfolding roll_answer
  roll_same plan k rates =
      ap (λ (j : Judgement). judged_answer j (λ g. roll_passed g a plan k rates)) (judged_same plan) ∙ go (judgement_of b plan) refl
    where
      go : (j : Judgement) → judgement_of b plan ≡ j
          → judged_answer j (λ g. roll_passed g a plan k rates) ≡ judged_answer j (λ g. roll_passed g b plan k rates)
      go (Err n) e = refl
      go (Ok p) e =
          let alike = (judged_passing b plan p e).plant_good in
          let s : p.shape ≡ f = cc in
          rw s (passed_same plan k rates)

  pub same_answers : SameAnswers a b
  unfolding check_of slot_answer report_text
  same_answers =
      record {
        check = λ plan. ap check_from (judged_same plan);
        slots = λ plan. ap (λ (j : Judgement). judged_answer j (λ g. bytes (slot_file g (shown_in g plan)))) (judged_same plan);
        plan = plan_same;
        roll = roll_same;
        report = λ plan h.
            ap (λ (j : Judgement). first_line (check_from j) ++ lines_of j a plan) (judged_same plan)
            ∙ ap (λ (l : List ℕ). first_line (check_from (judgement_of b plan)) ++ l) (lines_same plan h (judgement_of b plan) (judged_same plan));
      }
