-- Request 2026-02 holds, for every accepted plant file. Assumes nothing.
use Prim.Native.Nat.{ℕ, ◌+◌, ◌*◌, ◌<◌, ◌≤◌}
use mathlib.Core.Path.{◌≡◌, refl, sym, ap, ◌∙◌}
use mathlib.Core.Logic.{◌⊎◌, ◌≢◌, inl, inr}
use mathlib.Core.Bool.{false, ◌&&◌}
use mathlib.Core.List.{List, [], ◌∷◌}
use native.Mathlib.Omega.{arith}
use lib.Dec.{leb}
use borrow.Author.Tests.{eq-eqb, ne_eqb, le-ltb, lt-leb}
use Rattle.mathematics.specs.Below.{is}
use Rattle.mathematics.specs.Order.{first_in}
use Rattle.mathematics.proofs.Below.{and_false, is_eq}
use Rattle.numbers.specs.Number.{Bytes}
use Rattle.sections.specs.declared.Shape.{Shape}
use Rattle.std.specs.Prelude.{Ok, Some}
use Rattle.plant_file.specs.Plant.{plant_of, mounted_in, shut_before_in}
use Rattle.plant_file.specs.Form.{mounted_known, mounted_in_range, plant_form}
use Rattle.plant_file.specs.Ranges.{PlantRanges}
use Rattle.plant_file.proofs.PlantKinds.{has_none}
use Rattle.plant_file.proofs.PlantReads.{plant_good, headed_kinds, other_pair, outside_refused}
use Rattle.plant_file.proofs.SamePlantFiles.{section_bytes, same_numbers}
use Rattle.plant_file.proofs.PlantInRange.{plant_ranges}
use Rattle.plan_file.specs.Plan.{Plan, plan_of}
use Rattle.slot_file.specs.Slots.{order_of_slots, slots_of}
use Rattle.costs.specs.Mounted.{opening_mounted}
use Rattle.costs.specs.Changeover.{changeover_between}
use Rattle.costs.proofs.Changeovers.{opening_below}
use Rattle.machine.specs.declared.State.{State}
use Rattle.machine.specs.Run.{opening}
use Rattle.rules.specs.Rules.{week_of, changeovers_under, changeovers_in}
use Rattle.model.proofs.Changeovers.{one_changeover}
use Rattle.model.proofs.GivenPlans.{plan_agree}
use Rattle.model.proofs.Grids.{grid_ext}
use Rattle.model.proofs.SmallPlantFacts.{small_plant_facts}
use Rattle.demands.specs.ThirdDemand.{GivesFile}
use Rattle.demands.specs.OpeningMounted.{Passes, EarlierShut, OpeningMounted}
use Rattle.demands.proofs.ThirdDemandHolds.{given, third_demand}
use Rattle.demands.proofs.ShutWeeksHold.{opening_passage}
use Rattle.demands.proofs.SameAnswersHold.{same_answers}

-- ---- a plant file
-- section 12 outside its values
outside : (N m b : ℕ) → ((N ≤ m) × (m ≢ 255)) ⊎ (2 ≤ b) → (leb b 1 && mounted_known N m) ≡ false
unfolding mounted_known
outside N m b (inl h) = rw (le-ltb m N h.0, ne_eqb m 255 h.1, and_false) refl
outside N m b (inr h) = rw (lt-leb b 1 h) refl

-- ---- a plan that slots give
-- one product comes first
first_is : (ps : List ℕ) (q : ℕ) → first_in ps q ≡ 1 → (j : ℕ) → first_in ps j ≡ is q j
first_is [] q e j = absurd (omega arith)
first_is (p ∷ ps) q e j = ap (λ (k : ℕ). is k j) (is_eq p q (omega arith))

module _ (plant : List ℕ) (f : Shape) (accepted : plant_form plant ≡ Ok f) (plan : List ℕ) (b : Bytes plan)
    (slots : List ℕ) (s : State) (gives : GivesFile plant f slots s plan) where
  abbrev X : Plan
  X = plan_of f plan

  R : PlantRanges (plant_of f plant)
  R = plant_ranges plant f accepted

  first_mark : (w q : ℕ) → w < f.weeks → q < f.products → X.line.first w q ≡ 1 → (j : ℕ) → j < f.products → X.line.first w j ≡ is q j
  unfolding week_of
  first_mark w q l k e j h =
      let a = plan_agree R (given plant f accepted plan b slots s gives) w l in
      a.first j h ∙ first_is (order_of_slots ((slots_of f slots).line.week w)) q (sym (a.first q k) ∙ e) j

  first_changeover : (p : ℕ) → opening_mounted (plant_of f plant).line ≡ Some p → (w : ℕ) → w < f.weeks → EarlierShut f X w
      → (q : ℕ) → q < f.products → X.line.first w q ≡ 1 → (table : ℕ → ℕ → ℕ)
      → changeovers_in f.products table X.line w ≡ changeovers_under f.products table (X.line.changeover w) + changeover_between table p q
  unfolding changeovers_in changeovers_under
  first_changeover p o w l earlier q k e table =
      let t = changeover_between table in
      ap (λ (z : ℕ). changeovers_under f.products table (X.line.changeover w) + z)
      (grid_ext f.products f.products (λ i j. X.line.week_changeover w i j * t i j) (λ i j. is p i * is q j * t i j)
      (λ i j h m.
      ap (λ (z : ℕ). z * t i j)
      (opening_passage plant f accepted plan b slots s gives (Some p) o w l earlier i j h m
      ∙ ap (λ (z : ℕ). is p i * z) (first_mark w q l k e j m)))
      ∙ one_changeover f.products table (Some p) q (rw o at (opening_below f.products (plant_of f plant).line R.line)) k)

-- ---- an accepted plant file
-- a plan that passes has slots that give it
given_slots : (plant : List ℕ) (f : Shape) → plant_form plant ≡ Ok f → (plan : List ℕ) → Passes plant plan
    → (slots : List ℕ) × (s : State) × GivesFile plant f slots s plan
given_slots plant f accepted plan h = (third_demand plant f accepted plan h.bytes).passes_exactly.0 (h.profit, h.passed)

pub opening_mounted_lem : (plant : List ℕ) (f : Shape) → plant_form plant ≡ Ok f → OpeningMounted plant f
unfolding opening opening_mounted mounted_in shut_before_in mounted_in_range
opening_mounted_lem plant f accepted =
    let R = plant_ranges plant f accepted in
    record {
      kind = sym (plant_good plant f accepted).kind;
      kinds = rw (← (plant_good plant f accepted).kind) (headed_kinds plant (plant_good plant f accepted).head);
      other_pair_is_1 = other_pair;
      section_12 = section_bytes f plant accepted;
      mounted_known_lem = R.line.mounted_known_lem;
      shut_before_most = R.line.shut_before_most;
      second_byte_unread = λ other good e h. same_answers f plant other accepted good (same_numbers f plant other accepted e h);
      first_changeover = λ plan h.
          let r = given_slots plant f accepted plan h in
          first_changeover plant f accepted plan h.bytes r.0 r.1 r.2;
      first_passage = λ plan h p.
          let r = given_slots plant f accepted plan h in
          opening_passage plant f accepted plan h.bytes r.0 r.1 r.2 (Some p);
      kind_one = λ e. (rw (has_none f.kind e) refl, rw (has_none f.kind e) refl);
      outside_is_5 = λ t h l i z o. outside_refused t h l i z (outside _ _ _ o);
      opening_mounted_lem = λ l. rw (ne_eqb (plant_of f plant).line.mounted 255 (λ e. absurd (omega (arith, l, e, R.products_most)))) refl;
      opening_nothing = λ e. rw (eq-eqb (plant_of f plant).line.mounted 255 e) refl;
      compared = third_demand plant f accepted;
      case_mounted = small_plant_facts.1;
    }
