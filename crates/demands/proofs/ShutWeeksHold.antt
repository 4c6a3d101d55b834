-- Request 2026-01 holds, for every accepted plant file and every plan file that passes. Assumes nothing.
use Rattle.sections.specs.declared.Refusal.TheVariants as refusal
use Prim.Native.Nat.{ℕ, ◌*◌, ◌<◌, ◌≤◌}
use mathlib.Core.Path.{◌≡◌, refl, sym, ap, ◌∙◌}
use mathlib.Core.List.{List, [], ◌∷◌}
use native.Mathlib.Omega.{arith}
use lib.ListN.{length, get_or}
use Rattle.mathematics.specs.Week.{NoProduct}
use Rattle.mathematics.specs.Order.{ProductsBelow, assigned_in}
use Rattle.mathematics.proofs.Below.{sum_zero, is_same}
use Rattle.mathematics.proofs.WeekRules.{shut_each, rule31_facts}
use Rattle.mathematics.proofs.OrderTheorem as order
use Rattle.numbers.specs.Number.{Bytes}
use Rattle.sections.specs.declared.Shape.{Shape}
use Rattle.std.specs.Prelude.{Err, None, Ok}
use Rattle.plant_file.specs.Plant.{Plant, plant_of}
use Rattle.plant_file.specs.Form.{plant_form}
use Rattle.plant_file.specs.Ranges.{PlantRanges}
use Rattle.plant_file.proofs.PlantInRange.{plant_ranges}
use Rattle.plan_file.specs.Plan.{Plan, plan_of}
use Rattle.slot_file.specs.Slots.{Slot, slot_count, order_of_slots, Slots, slots_of}
use Rattle.slot_file.proofs.Orders.{order_below}
use Rattle.slot_file.proofs.SlotReads.{week_length, formed_not_24}
use Rattle.costs.specs.Mounted.{Mounted, is_mounted, opening_mounted}
use Rattle.machine.specs.declared.State.{State}
use Rattle.rules.specs.Rules.{week_of, mounted_after, mounted_before}
use Rattle.rules.proofs.Weeks.{end_over, end_opening}
use Rattle.rules.proofs.Words.{same_verdict}
use Rattle.model.specs.RunTables.{minutes_of, line_tables, mounted_at, run_tables}
use Rattle.model.specs.Match.{Gives}
use Rattle.model.proofs.RuleFacts.{amounts_of}
use Rattle.model.proofs.GivenPlans.{is_order_lem, plan_agree, given_rules}
use Rattle.model.proofs.RunStates as run-states
use Rattle.model.proofs.SmallPlantFacts.{small_plant_facts}
use Rattle.model.specs.SmallPlant.{Fact, judged}
use Rattle.units.specs.declared.Profit.{Profit}
use Rattle.calls.specs.Check.{check_of}
use Rattle.calls.specs.Answer.{bytes, slot_answer}
use Rattle.demands.specs.ThirdDemand.{GivesFile}
use Rattle.demands.specs.ShutWeeks.{ShutTables, ShutSales, IsShut, Produces, ShutWeeks}
use Rattle.demands.proofs.ThirdDemandHolds.{given, slot_answer_lem, third_demand}

-- slots of no product are none
no_slots : (N : ℕ) (xs : List Slot) → ProductsBelow N (order_of_slots xs) → ((i : ℕ) → i < N → assigned_in (order_of_slots xs) i ≡ 0) → xs ≡ []
no_slots N [] b h = refl
no_slots N (x ∷ xs) b h = absurd (omega (arith, h x.product (b 0 (omega arith)), is_same x.product x.product refl))

-- ---- a plan that slots give
module _ (plant : List ℕ) (f : Shape) (accepted : plant_form plant ≡ Ok f) (plan : List ℕ) (b : Bytes plan)
    (slots : List ℕ) (s : State) (gives : GivesFile plant f slots s plan) where
  abbrev P : Plant
  P = plant_of f plant

  abbrev X : Plan
  X = plan_of f plan

  abbrev S : Slots
  S = slots_of f slots

  R : PlantRanges P
  R = plant_ranges plant f accepted

  g : Gives P S s X
  g = given plant f accepted plan b slots s gives

  mounted_before_lem : (w : ℕ) → w ≤ f.weeks → (i : ℕ) → i < f.products
      → mounted_before f.products P.line X.line w i ≡ is_mounted (mounted_at P S w) i
  mounted_before_lem = run-states.mounted_before_lem P S X.line f.weeks g.formed (plan_agree R g)

  -- ZF leads from what is mounted before the week to its first product
  between : (w : ℕ) → w < f.weeks → (i j : ℕ) → i < f.products → j < f.products
      → X.line.week_changeover w i j ≡ mounted_before f.products P.line X.line w i * X.line.first w j
  unfolding run_tables line_tables week_of
  between w l i j k m =
      g.same.line.week_changeover w i j l k m
      ∙ (λ u. sym (mounted_before_lem w (omega arith) i k) u * sym ((plan_agree R g w l).first j m) u)

  -- ---- a week without E
  module _ (w : ℕ) (l : w < f.weeks) (none : (i : ℕ) → i < f.products → X.line.assigned w i ≡ 0) where
    no_slot : S.line.week w ≡ []
    unfolding week_of
    no_slot =
        no_slots f.products (S.line.week w) (order_below f.products (S.line.week w) (g.formed w l))
        (λ i k. sym ((plan_agree R g w l).assigned i k) ∙ none i k)

    order_zero : NoProduct f.products (week_of X.line w)
    unfolding week_of
    order_zero =
        order.shut_zero f.products (week_of X.line w)
        (order.order_agree f.products (week_of X.line w) (order_of_slots (S.line.week w)) (is_order_lem R g w l) (plan_agree R g w l))
        (sum_zero f.products (X.line.assigned w) none)

    production_zero : (i : ℕ) → i < f.products → X.production w i ≡ 0
    unfolding run_tables
    production_zero i k =
        g.same.production w i l k ∙ (ap (λ (xs : List Slot). P.line.rate i * minutes_of xs i) no_slot ∙ omega arith)

    shut_tables : ShutTables f.products X w
    unfolding run_tables line_tables week_of
    shut_tables =
        record {
          order = order_zero;
          week_changeover = λ i j k m. between w l i j k m ∙ rw (order_zero.first j m) (omega arith);
          minutes = λ i k. g.same.line.minutes w i l k ∙ ap (λ (xs : List Slot). minutes_of xs i) no_slot;
          production = production_zero;
        }

    shut_count : slot_count slots w ≡ 0
    shut_count = sym (week_length f slots w) ∙ ap length no_slot

    shut_sales : ShutSales P X w
    shut_sales =
        let a = amounts_of P X (given_rules R g) w l in
        record {
          inventory = λ i k. omega (arith, a.inventories i k, production_zero i k);
          backlog = a.backlogs;
        }

  -- ---- the passage into a week
  passage : (v w : ℕ) → v < w → w < f.weeks → Produces f X v → ((u : ℕ) → v < u → u < w → IsShut f X u)
      → (i j : ℕ) → i < f.products → j < f.products → X.line.week_changeover w i j ≡ X.line.last v i * X.line.first w j
  unfolding mounted_before mounted_after
  passage v w l h e between-shut i j k m =
      between w h i j k m
      ∙ ap (λ (n : ℕ). mounted_after P.line X.line n i * X.line.first w j) (end_over f.products X.line v w l e between-shut)

  -- into the first producing week it leads from what the line begins with
  pub opening_passage : (m : Mounted) → opening_mounted P.line ≡ m → (w : ℕ) → w < f.weeks → ((u : ℕ) → u < w → IsShut f X u)
      → (i j : ℕ) → i < f.products → j < f.products → X.line.week_changeover w i j ≡ is_mounted m i * X.line.first w j
  unfolding mounted_before mounted_after
  opening_passage m o w l earlier i j k h =
      between w l i j k h
      ∙ (ap (λ (n : ℕ). mounted_after P.line X.line n i * X.line.first w j) (end_opening f.products X.line w earlier)
      ∙ ap (λ (n : Mounted). is_mounted n i * X.line.first w j) o)

  given_weeks : ShutWeeks plant f plan slots
  given_weeks =
      record {
        shut_zero = λ w l none. (shut_tables w l none, shut_count w l none);
        sales_happen = shut_sales;
        passage = passage;
        first_passage = λ o w l earlier i j k h. opening_passage None o w l earlier i j k h ∙ omega arith;
        rule_31 = rule31_facts f.products;
        none_of_each = shut_each f.products;
        rule_33 = same_verdict P R.line;
        count_of_0 = formed_not_24 f;
        case_10 = ap (λ (l : List Fact). get_or l 9 (judged (Err refusal.PlantContents))) small_plant_facts.0;
        case_13 = ap (λ (l : List Fact). get_or l 12 (judged (Err refusal.PlantContents))) small_plant_facts.0;
        mounted_before_lem = mounted_before_lem;
      }

-- ---- a plan that passes, and what slot return answers
pub shut_weeks : (plant : List ℕ) (f : Shape) → plant_form plant ≡ Ok f → (plan : List ℕ) → Bytes plan
    → (q : Profit) → check_of plant plan ≡ Ok q → (slots : List ℕ) → slot_answer plant plan ≡ bytes slots → ShutWeeks plant f plan slots
shut_weeks plant f accepted plan b q e slots a =
    let r = (third_demand plant f accepted plan b).passes_exactly.0 (q, e) in
    let alike = sym (slot_answer_lem plant f accepted plan b r.0 r.1 r.2) ∙ a in
    let same : r.0 ≡ slots = cc in
    rw same at (given_weeks plant f accepted plan b r.0 r.1 r.2)
