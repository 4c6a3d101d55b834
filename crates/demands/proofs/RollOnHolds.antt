-- Request 2026-03 holds: what rolling on refuses, and the file that it writes. Assumes nothing.
use Rattle.sections.specs.declared.Refusal.{Refusal}
use Prim.Native.Nat.{ℕ, zero, suc, ◌+◌, ◌*◌, ◌-◌, ◌≤◌, ◌<◌}
use mathlib.Core.Path.{◌≡◌, refl, sym, ap, ◌∙◌}
use mathlib.Core.Logic.{◌↔◌, ◌⊎◌, ◌≢◌, inl, inr}
use mathlib.Core.Bool.{Bool, true, false, cond, true≢false}
use mathlib.Core.List.{List, [], ◌∷◌}
use native.Mathlib.Omega.{arith}
use lib.ListN.{length, get_or}
use lib.Dec.{leb}
use borrow.Author.Tests.{lt-leb, eq-eqb, ne_eqb}
use Rattle.mathematics.specs.Below.{within}
use Rattle.mathematics.specs.Week.{WeekTables, shut}
use Rattle.mathematics.specs.Order.{order_tables, Agree}
use Rattle.mathematics.proofs.Below.{and_false, all_fails}
use Rattle.mathematics.proofs.OrderTheorem.{agree_shut, agree_not_shut}
use Rattle.sections.specs.declared.Shape.{Shape}
use Rattle.std.specs.Prelude.{Err, Ok}
use Rattle.sections.specs.Rows.{Form}
use Rattle.sections.specs.Limits.{most_rate, most_storage}
use Rattle.plant_file.specs.Plant.{Plant, plant_of}
use Rattle.plant_file.specs.Form.{plant_form}
use Rattle.plant_file.specs.File.{plant_file}
use Rattle.plant_file.specs.Same.{SamePlant}
use Rattle.plant_file.specs.Rates.{listed_rate, rates_form}
use Rattle.plant_file.specs.Ranges.{PlantRanges}
use Rattle.plant_file.specs.Kinds.{plant_kind, has_mounted}
use Rattle.plant_file.proofs.PlantInRange.{plant_ranges}
use Rattle.plant_file.proofs.PlantAccepted.{plant_accepted}
use Rattle.plant_file.proofs.GoodRates.{rates_good, rates_pass}
use Rattle.plant_file.proofs.FileIsPlant as plant-file
use Rattle.plan_file.specs.Plan.{Plan, plan_of}
use Rattle.slot_file.specs.Slots.{Slot, no_slot, order_of_slots, Slots, SlotsFit}
use Rattle.slot_file.proofs.FileIsSlots as slot-file
use Rattle.costs.proofs.Changeovers.{number_known}
use Rattle.machine.specs.Run.{after}
use Rattle.rules.specs.Rules.{week_of, backlog_before, inventory_before}
use Rattle.model.specs.RunTables.{mounted_at, run_tables}
use Rattle.model.specs.Match.{Gives}
use Rattle.model.specs.Rolled.{weeks_left, backlog_carried, rolled_shape, rolled_plant, later_slots}
use Rattle.model.proofs.RolledTests.{left_is, is_left, none_left, carried_each, each_carried, not_carried, backlog_after_lem}
use Rattle.model.proofs.RunStates.{mounted_below_lem}
use Rattle.model.proofs.RuleFacts.{amounts_of}
use Rattle.model.proofs.GivenPlans.{plan_agree, given_rules, given_inventory, given_backlog, given_mounted}
use Rattle.model.proofs.Widths.{shown_fit}
use Rattle.passed_plan.specs.Judgement.{Judgement, judgement_of}
use Rattle.passed_plan.specs.Shown.{shown_in}
use Rattle.passed_plan.proofs.PassedFacts.{Passing, passing_judged, PassedFacts, passed_plan}
use Rattle.calls.specs.Check.{check_from, check_of}
use Rattle.calls.specs.Answer.{Answer, bytes, refused, form_answer, judged_answer, test_answer, roll_passed, roll_answer}
use Rattle.demands.specs.OpeningMounted.{Passes}
use Rattle.demands.specs.RollOn.{RatesInRange, RollRefused, RolledOn, RollOn, OpeningBacklog, RollingOn}
use Rattle.demands.proofs.ThirdDemandHolds.{check_passing}
use Rattle.demands.proofs.RolledRuns.{opens_mounted, runs_on}
use Rattle.sections.specs.declared.Refusal.TheVariants as refusal

-- ---- answers of bytes, by their tests
test_bytes : (n : Refusal) (t : Bool) (next : Answer) (b : List ℕ) → test_answer n t next ≡ bytes b → (t ≡ true) × (next ≡ bytes b)
test_bytes n true next b e = (refl, e)
test_bytes n false next b e = absurd (let z : ◌≡◌ {A = ℕ} 0 1 = cc in omega arith)

form_bytes : (r : Form) (next : Answer) (b : List ℕ) → form_answer r (λ _. next) ≡ bytes b → ((g : Shape) × (r ≡ Ok g)) × (next ≡ bytes b)
form_bytes (Ok g) next b e = ((g, refl), e)
form_bytes (Err n) next b e = absurd (let z : ◌≡◌ {A = ℕ} 0 1 = cc in omega arith)

judged_refused : (j : Judgement) (next : Shape → Answer) (n : Refusal) → check_from j ≡ Err n → judged_answer j next ≡ refused n
judged_refused (Ok p) next n e = absurd (let z : ◌≡◌ {A = ℕ} 0 1 = cc in omega arith)
judged_refused (Err m) next n e = let i : m ≡ n = cc in ap refused i

rate_outside : (r : ℕ) → (r ≡ 0) ⊎ (100000 < r) → within 1 most_rate r ≡ false
rate_outside r (inl h) = rw (lt-leb 1 r (omega arith)) refl
rate_outside r (inr h) = rw (lt-leb r most_rate h) (and_false (leb 1 r))

-- ---- a plan that passes
module _ (plant : List ℕ) (f : Shape) (accepted : plant_form plant ≡ Ok f) (plan : List ℕ) (h : Passes plant plan) where
  abbrev P : Plant
  P = plant_of f plant

  abbrev X : Plan
  X = plan_of f plan

  abbrev S : Slots
  S = shown_in f plan

  R : PlantRanges P
  R = plant_ranges plant f accepted

  passing : Passing f plant plan h.profit
  passing = check_passing plant f accepted plan h.bytes h.profit h.passed

  passed : PassedFacts f plant plan
  passed = passed_plan f plant plan h.profit h.bytes passing

  g : Gives P S (after P S f.weeks) X
  g = passed.given

  module _ (k : ℕ) (rates : List ℕ) where
    judged : roll_answer plant plan k rates ≡ roll_passed f plant plan k rates
    unfolding roll_answer
    judged = rw (passing_judged plant plan f h.profit passing)

    -- ---- its refusals
    outside : (k ≡ 0) ⊎ (f.weeks ≤ k) → roll_answer plant plan k rates ≡ refused refusal.WeeksLeft
    unfolding roll_passed
    outside e = judged ∙ rw (none_left f.weeks k e) refl

    module _ (some : 1 ≤ k) (left : k < f.weeks) where
      wrong_list : length rates ≢ 4 * f.products → roll_answer plant plan k rates ≡ refused refusal.PlantLengths
      unfolding roll_passed rates_form
      wrong_list e = judged ∙ rw (is_left f.weeks k some left, ne_eqb (length rates) (4 * f.products) e) refl

      wrong_rate : length rates ≡ 4 * f.products → (i : ℕ) → i < f.products → (listed_rate rates i ≡ 0) ⊎ (100000 < listed_rate rates i)
          → roll_answer plant plan k rates ≡ refused refusal.PlantRanges
      unfolding roll_passed rates_form
      wrong_rate e i l o =
          judged
          ∙ rw (
            is_left f.weeks k some left,
            eq-eqb (length rates) (4 * f.products) e,
            all_fails f.products (λ j. within 1 most_rate (listed_rate rates j)) i l (rate_outside (listed_rate rates i) o),
          ) refl

      module _ (long : length rates ≡ 4 * f.products) (inside : RatesInRange f.products rates) where
        good : rates_form f rates ≡ Ok f
        good = rates_pass f rates long inside

        -- the backlog after week k
        backlog_is : (c i : ℕ) → backlog_before P X k c i ≡ X.backlog c i (k - 1)
        backlog_is c i = ap (λ (table : ℕ → ℕ → ℕ). table c i) (backlog_after_lem P X k some)

        too_much : (c i : ℕ) → c < f.customers → i < f.products → 1600000000 < X.backlog c i (k - 1) → roll_answer plant plan k rates ≡ refused refusal.OpeningBacklog
        unfolding roll_passed
        too_much c i j l o =
            judged ∙ rw (is_left f.weeks k some left, good, not_carried P X k c i j l (omega (arith, backlog_is c i))) refl

        written : ((c i : ℕ) → c < f.customers → i < f.products → X.backlog c i (k - 1) ≤ 1600000000)
            → (new : List ℕ) × (roll_answer plant plan k rates ≡ bytes new)
        unfolding roll_passed
        written b =
            let carried = each_carried P X k (λ c i j l. omega (arith, backlog_is c i, b c i j l)) in
            (plant_file (rolled_plant P X k (listed_rate rates)), judged ∙ rw (is_left f.weeks k some left, good, carried) refl)

    -- ---- the file that it writes
    module _ (new : List ℕ) (answer : roll_answer plant plan k rates ≡ bytes new) where
      tests : (weeks_left f.weeks k ≡ true) × ((g : Shape) × (rates_form f rates ≡ Ok g)) × (backlog_carried P X k ≡ true)
          × (plant_file (rolled_plant P X k (listed_rate rates)) ≡ new)
      unfolding roll_passed
      tests =
          let a = test_bytes refusal.WeeksLeft (weeks_left f.weeks k) _ new (sym judged ∙ answer) in
          let b = form_bytes (rates_form f rates) _ new a.1 in
          let d = test_bytes refusal.OpeningBacklog (backlog_carried P X k) _ new b.1 in
          let e = d.1 in
          (a.0, b.0, d.0, cc)

      some : 1 ≤ k
      some = (left_is f.weeks k tests.0).0

      left : k < f.weeks
      left = (left_is f.weeks k tests.0).1

      abbrev rolled : Plant
      rolled = rolled_plant P X k (listed_rate rates)

      abbrev Q : Plant
      Q = plant_of (rolled_shape f k) new

      inventory_most : (i : ℕ) → i < f.products → inventory_before P X k i ≤ most_storage
      unfolding inventory_before
      inventory_most i l = go k some (omega (arith, left))
        where
          go : (n : ℕ) → 1 ≤ n → n ≤ f.weeks → inventory_before P X n i ≤ most_storage
          go zero a b = absurd (omega arith)
          go (suc n) a b = omega (arith, (amounts_of P X (given_rules R g) n b).storage_most i l, R.storage_most i l)

      mark_most : (t : Bool) → cond t 1 0 ≤ 1
      mark_most true = omega arith
      mark_most false = omega arith

      -- its numbers are within their ranges, so it is accepted and they come back
      ranges : PlantRanges rolled
      unfolding rolled_plant plant_kind has_mounted
      ranges =
          let rate = (rates_good f tests.1.0 rates tests.1.1).1 in
          record {
            kind_known = refl;
            none_mounted = λ e. absurd (true≢false e);
            products_least = R.products_least;
            products_most = R.products_most;
            customers_least = R.customers_least;
            customers_most = R.customers_most;
            weeks_least = omega (arith, left);
            weeks_most = omega (arith, R.weeks_most);
            line = record {
              rate_least = λ i l. (rate i l).0;
              rate_most = λ i l. (rate i l).1;
              minutes_most = R.line.minutes_most;
              minutes_diagonal = R.line.minutes_diagonal;
              cents_most = R.line.cents_most;
              cents_diagonal = R.line.cents_diagonal;
              mounted_known_lem =
                  rw (given_mounted R g k left)
                  (number_known f.products (mounted_at P S k) (mounted_below_lem P S R.line k (λ w l. g.formed w (omega (arith, left)))));
              shut_before_most = mark_most (shut f.products (week_of X.line (k - 1)));
            };
            demand_most = λ c i w j l m. R.demand_most c i (k + w) j l (omega arith);
            price_most = R.price_most;
            backlog_cost_most = R.backlog_cost_most;
            inventory_cost_most = R.inventory_cost_most;
            storage_ordered = R.storage_ordered;
            storage_most = R.storage_most;
            opening_inventory_most = inventory_most;
            opening_backlog_most = carried_each P X k tests.2;
            shortest_least = R.shortest_least;
            shortest_most = R.shortest_most;
            week_most = R.week_most;
          }

      good_file : plant_form new ≡ Ok (rolled_shape f k)
      unfolding rolled_plant
      good_file = rw tests.3 at (plant-file.file_good rolled ranges)

      same : SamePlant rolled Q
      unfolding rolled_plant
      same = rw tests.3 at (plant-file.file_plant rolled ranges)

      shut_same : rolled.line.shut_before ≡ Q.line.shut_before
      unfolding rolled_plant
      shut_same = rw tests.3 at (plant-file.shut_before_back rolled ranges)

      -- the second byte, by the slots of week k
      mark_exactly : (xs : List Slot) (y : WeekTables) → ((i : ℕ) → i < length xs → (get_or xs i no_slot).product < f.products)
          → Agree f.products y (order_tables (order_of_slots xs)) → (◌≡◌ {A = ℕ} (cond (shut f.products y) 1 0) 1) ↔ (length xs ≡ 0)
      mark_exactly [] y known a = rw (agree_shut f.products y a) (λ e. refl, λ e. refl)
      mark_exactly (x ∷ xs) y known a =
          rw (agree_not_shut f.products y x.product (order_of_slots xs) (known 0 (omega arith)) a)
          (λ e. absurd (omega arith), λ e. absurd (omega arith))

      rolled_on : RolledOn f.products f.customers f.weeks P S k rates Q
      unfolding rolled_plant
      rolled_on =
          let last : k - 1 < f.weeks = omega (arith, left) in
          record {
            demand = λ c i w j l m. sym (same.demand c i w j l m);
            inventory = λ i l. sym (same.opening_inventory i l) ∙ given_inventory R g k i left l;
            backlog = λ c i j l. sym (same.opening_backlog c i j l) ∙ given_backlog R g k c i left j l;
            mounted = opens_mounted f plant R S _ X g k left new (plant_ranges new (rolled_shape f k) good_file) (listed_rate rates) same;
            rate = λ i l. sym (same.rate i l);
            shut_before = rw shut_same at
                (mark_exactly (S.line.week (k - 1)) (week_of X.line (k - 1)) (g.formed (k - 1) last).product (plan_agree R g (k - 1) last));
            shut_before_most = (plant_ranges new (rolled_shape f k) good_file).line.shut_before_most;
            changeover_minutes = λ i j l m. sym (same.changeover_minutes i j l m);
            changeover_cents = λ i j l m. sym (same.changeover_cents i j l m);
            price = λ c i j l. sym (same.price c i j l);
            backlog_cost = λ c i j l. sym (same.backlog_cost c i j l);
            inventory_cost = λ i l. sym (same.inventory_cost i l);
            least_storage = λ i l. sym (same.least_storage i l);
            greatest_storage = λ i l. sym (same.greatest_storage i l);
            shortest_run = sym same.shortest_run;
            week_minutes = sym same.week_minutes;
          }

      -- ---- with the plant's own rates
      own_rates : ((i : ℕ) → i < f.products → listed_rate rates i ≡ P.line.rate i) → SamePlant (rolled_plant P X k P.line.rate) Q
      unfolding rolled_plant
      own_rates e =
          record {
            rate = λ i l. sym (e i l) ∙ same.rate i l;
            changeover_minutes = same.changeover_minutes;
            changeover_cents = same.changeover_cents;
            mounted = same.mounted;
            demand = same.demand;
            price = same.price;
            backlog_cost = same.backlog_cost;
            inventory_cost = same.inventory_cost;
            least_storage = same.least_storage;
            greatest_storage = same.greatest_storage;
            opening_inventory = same.opening_inventory;
            opening_backlog = same.opening_backlog;
            shortest_run = same.shortest_run;
            week_minutes = same.week_minutes;
          }

      -- the later slots fit their sections
      later_fit : SlotsFit (rolled_shape f k) (later_slots k S)
      unfolding later_slots
      later_fit =
          let fit = shown_fit R passed.binary passing.passes in
          record {
            formed = λ w l. fit.formed (k + w) (omega arith);
            minutes = λ w q l m. fit.minutes (k + w) q (omega arith) m;
            sales = λ c i w j l m. fit.sales c i (k + w) j l (omega arith);
          }

      roll_on : RollOn plant f plan k rates new
      unfolding run_tables
      roll_on =
          let r = rolled_shape f k in
          let small : (r.products < 256) × (r.customers < 256) × (r.weeks < 256) =
          (omega (arith, R.products_most), omega (arith, R.customers_most), omega (arith, R.weeks_most)) in
          record {
            accepted = good_file;
            rolled = rolled_on;
            runs_on = λ e. (
              slot-file.file_good r (later_slots k S) small later_fit,
              runs_on f plant R S _ X g k left new (plant_ranges new r good_file) (own_rates e) _
                  (slot-file.file_slots r (later_slots k S) small later_fit),
            );
            whole = sym g.same.profit;
          }

-- ---- an accepted plant file and any plan
roll_refused : (plant : List ℕ) (f : Shape) → plant_form plant ≡ Ok f → (plan : List ℕ) (k : ℕ) (rates : List ℕ)
    → RollRefused plant f plan k rates
roll_refused plant f accepted plan k rates =
    record {
      outside_is_61 = λ h. outside plant f accepted plan h k rates;
      list_is_4 = λ h a b. wrong_list plant f accepted plan h k rates a b;
      rate_is_5 = λ h a b. wrong_rate plant f accepted plan h k rates a b;
      backlog_is_62 = λ h a b. too_much plant f accepted plan h k rates a b;
      otherwise = λ h a b. written plant f accepted plan h k rates a b;
    }

opening_backlog : (plant : List ℕ) (f : Shape) → plant_form plant ≡ Ok f → OpeningBacklog plant f
unfolding plant_kind
opening_backlog plant f accepted =
    record {
      kind_four = refl;
      kind_one = refl;
      limit = (plant_ranges plant f accepted).opening_backlog_most;
      never_refused = plant_accepted;
    }

pub rolling_on : (plant : List ℕ) → RollingOn plant
unfolding check_of roll_answer
rolling_on plant =
    record {
      unchecked = λ plan k rates n e. judged_refused (judgement_of plant plan) _ n e;
      refusals = roll_refused plant;
      writes = λ f accepted plan h k rates new. roll_on plant f accepted plan h k rates new;
      opening_backlog = opening_backlog plant;
    }
