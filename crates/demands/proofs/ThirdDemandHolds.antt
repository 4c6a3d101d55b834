-- The third demand holds, for every accepted plant file and every list of bytes as the plan file. Assumes nothing.
use Prim.Native.Nat.{ℕ, ◌<◌}
use mathlib.Core.Path.{◌≡◌, refl, sym, ◌∙◌}
use mathlib.Core.List.{List}
use native.Mathlib.Omega.{arith}
use Rattle.numbers.specs.Number.{Bytes}
use Rattle.sections.specs.declared.Shape.{Shape}
use Rattle.std.specs.Prelude.{Err, Ok}
use Rattle.plant_file.specs.Plant.{Plant, shape_of_plant, plant_of}
use Rattle.plant_file.specs.Form.{plant_form}
use Rattle.plant_file.specs.Ranges.{PlantRanges}
use Rattle.plant_file.proofs.PlantInRange.{plant_ranges}
use Rattle.plan_file.specs.Plan.{Plan, plan_of, SamePlan, PlanFits}
use Rattle.plan_file.proofs.PlanIsFile.{plan_is_file}
use Rattle.plan_file.proofs.FileIsPlan as plan-file
use Rattle.plan_file.proofs.SamePlans as same-plans
use Rattle.slot_file.specs.Slots.{Slots, slots_of, SameSlots, SlotsFit}
use Rattle.slot_file.specs.File.{slot_file}
use Rattle.slot_file.proofs.SlotReads.{slots_formed}
use Rattle.slot_file.proofs.SlotsIsFile.{slots_is_file}
use Rattle.slot_file.proofs.FileIsSlots as slot-file
use Rattle.slot_file.proofs.SameSlotFiles as same_slots
use Rattle.units.specs.declared.Profit.{Profit}
use Rattle.machine.specs.declared.State.{State}
use Rattle.machine.specs.Run.{after}
use Rattle.model.specs.RunTables.{run_tables}
use Rattle.model.specs.Match.{Gives}
use Rattle.model.proofs.Agreement.{running_passes, one_slots, shown_slots_lem}
use Rattle.model.proofs.Widths.{run_fits, shown_fit}
use Rattle.passed_plan.specs.declared.Pass.{Pass}
use Rattle.passed_plan.specs.Judgement.{Judgement, judgement_of}
use Rattle.passed_plan.specs.Shown.{shown_in}
use Rattle.passed_plan.proofs.PassedFacts.{Passing, judged_passing, passing_judged, PassedFacts, passed_plan}
use Rattle.calls.specs.Check.{check_from, check_of}
use Rattle.calls.specs.Answer.{bytes, slot_answer, plan_answer}
use Rattle.calls.proofs.Output.{long_enough}
use Rattle.demands.specs.ThirdDemand.{GivesFile, ThirdDemand}
use Rattle.demands.proofs.SameRuns.{run_same, tables_same}

-- the judgement behind a check that passes
judged_passed : (j : Judgement) (q : Profit) → check_from j ≡ Ok q → (p : Pass) × (j ≡ Ok p) × (p.profit ≡ q)
judged_passed (Ok p) q e = (p, refl, cc)
judged_passed (Err n) q e = absurd (let z : ◌≡◌ {A = ℕ} 0 1 = cc in omega arith)

module _ (plant : List ℕ) (f : Shape) (accepted : plant_form plant ≡ Ok f) (plan : List ℕ) (b : Bytes plan) where
  abbrev P : Plant
  P = plant_of f plant

  abbrev X : Plan
  X = plan_of f plan

  -- the slots that the plan shows, and their file
  abbrev shown_slots : Slots
  shown_slots = shown_in f plan

  abbrev file : List ℕ
  file = slot_file f shown_slots

  R : PlantRanges P
  R = plant_ranges plant f accepted

  small : (f.products < 256) × (f.customers < 256) × (f.weeks < 256)
  small = (omega (arith, R.products_most), omega (arith, R.customers_most), omega (arith, R.weeks_most))

  -- ---- checking passes exactly where the judgement does
  pub check_passing : (q : Profit) → check_of plant plan ≡ Ok q → Passing f plant plan q
  unfolding check_of
  check_passing q e =
      let r = judged_passed (judgement_of plant plan) q e in
      let h = judged_passing plant plan r.0 r.1 in
      let same = sym h.plant_good ∙ accepted in
      let s : r.0.shape ≡ f = cc in
      rw (s, r.2) at h

  pub passing_check : (q : Profit) → Passing f plant plan q → check_of plant plan ≡ Ok q
  unfolding check_of
  passing_check q h = rw (passing_judged plant plan f q h)

  -- ---- a slot file that gives the plan, over numbers
  module _ (slots : List ℕ) (s : State) (g : GivesFile plant f slots s plan) where
    abbrev S : Slots
    S = slots_of f slots

    -- the run gives its own tables, which fit their sections
    own : Gives P S s (run_tables P S)
    own =
        record { formed = slots_formed f slots g.rows; runs = g.runs; same = same-plans.same_self (shape_of_plant P) (run_tables P S) }

    fits : PlanFits f (run_tables P S)
    fits = run_fits R own

    same : SamePlan f X (run_tables P S)
    same = rw g.gives at (plan-file.file_plan f (run_tables P S) small fits)

    pub given : Gives P S s X
    given = record { formed = own.formed; runs = own.runs; same = same }

    passing : Passing f plant plan s.profit
    passing =
        record {
          plant_good = accepted;
          plan_good = rw g.gives at (plan-file.file_good f (run_tables P S) small fits);
          passes = running_passes R given;
        }

    -- the slots that the plan shows are these, as a file
    shown : file ≡ slots
    shown = same_slots.same_file f shown_slots S (shown_slots_lem R given) ∙ sym (slots_is_file f slots g.bytes g.rows)

    pub slot_answer_lem : slot_answer plant plan ≡ bytes slots
    unfolding slot_answer
    slot_answer_lem = rw (passing_judged plant plan f s.profit passing, shown)

    plan_answer_lem : plan_answer plant slots ≡ bytes plan
    unfolding plan_answer
    plan_answer_lem = rw (accepted, g.rows, g.runs, g.gives)

  -- ---- a plan that passes: the file of the slots that it shows gives it
  module _ (q : Profit) (e : check_of plant plan ≡ Ok q) where
    passes : Passing f plant plan q
    passes = check_passing q e

    passed : PassedFacts f plant plan
    passed = passed_plan f plant plan q b passes

    slots_fit : SlotsFit f shown_slots
    slots_fit = shown_fit R passed.binary passes.passes

    back : SameSlots f (slots_of f file) shown_slots
    back = slot-file.file_slots f shown_slots small slots_fit

    gives_file : GivesFile plant f file (after P shown_slots P.weeks) plan
    gives_file =
        record {
          bytes = slot-file.file_bytes f shown_slots;
          rows = slot-file.file_good f shown_slots small slots_fit;
          runs = run_same P (slots_of f file) shown_slots back ∙ passed.given.runs;
          gives =
              same-plans.same_file f (run_tables P (slots_of f file)) (run_tables P shown_slots) (tables_same P (slots_of f file) shown_slots back)
              ∙ (sym (same-plans.same_file f X (run_tables P shown_slots) passed.given.same) ∙ sym (plan_is_file f plan b passes.plan_good));
        }

  pub third_demand : ThirdDemand plant f plan
  third_demand =
      record {
        passes_exactly = (
          λ r. (file, after P shown_slots P.weeks, gives_file r.0 r.1),
          λ r. (r.1.profit, passing_check r.1.profit (passing r.0 r.1 r.2)),
        );
        only_one = λ a c s t g h.
            (same_slots.slots_equal f a c g.bytes h.bytes g.rows h.rows).1 (one_slots R (given a s g) (given c t h));
        slots_returned = λ slots s g out l. rw (slot_answer_lem slots s g) (long_enough slots out (omega arith));
        plan_again = λ slots s g out l. rw (plan_answer_lem slots s g) (long_enough plan out (omega arith));
        profit_of_run = λ slots s g. passing_check s.profit (passing slots s g);
      }
