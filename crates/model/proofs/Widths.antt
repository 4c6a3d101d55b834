-- The plan that a run gives fits its file, where the plant's numbers are in their ranges: every number is within its section's width.
-- So do the slots. Assumes nothing.
use Prim.Native.Nat.{ℕ, zero, suc, ◌+◌, ◌*◌, ◌^◌, ◌<◌, ◌≤◌}
use mathlib.Core.Path.{◌≡◌}
use mathlib.Core.List.{List, [], ◌∷◌}
use native.Mathlib.Omega.{arith}
use native.Mathlib.Nat.{mul-le-mul}
use lib.ListN.{length, get_or}
use lib.IntN.{pos, ◌-ℤ◌}
use lib.Signed.{mag}
use Rattle.mathematics.specs.Below.{sum_below}
use Rattle.mathematics.proofs.Tables.{sum_few}
use Rattle.sections.specs.Limits.{most_products, most_customers, most_weeks, most_changeover_cents, most_demand, most_unit_cost, most_storage}
use Rattle.sections.specs.Limits.{most_opening_backlog, most_week_minutes, most_backlog}
use Rattle.plant_file.specs.Plant.{Plant, shape_of_plant}
use Rattle.plant_file.specs.Ranges.{PlantRanges}
use Rattle.plant_file.proofs.PlantKinds.{kind_backlog}
use Rattle.plan_file.specs.Plan.{Plan, PlanFits}
use Rattle.slot_file.specs.Slots.{Slot, no_slot, Slots, SlotsFit}
use Rattle.units.specs.declared.Profit.{Profit}
use Rattle.units.proofs.Signed.{mag_sub}
use Rattle.costs.proofs.Changeovers.{between_most}
use Rattle.costs.specs.Changeover.{changeover_between}
use Rattle.machine.specs.declared.State.{State}
use Rattle.std.specs.Prelude.{Ok}
use Rattle.rules.specs.Verdict.{verdict_of}
use Rattle.rules.specs.Rules.{week_of, changeovers_under, changeovers_in, backlog_before, revenue_in, changeover_charge_in, backlog_charge_in, inventory_charge_in}
use Rattle.rules.specs.Rules.{profit_of}
use Rattle.model.specs.RunTables.{run_tables}
use Rattle.model.specs.Model.{Binary, AmountModel}
use Rattle.model.specs.Match.{Gives, slots_shown}
use Rattle.model.proofs.Grids.{grid_most}
use Rattle.model.proofs.Changeovers.{total_minutes}
use Rattle.model.proofs.RuleFacts.{RulesHold, rules_times, amounts_of, profit_of_lem}
use Rattle.model.proofs.RunRules.{clock}
use Rattle.model.proofs.PlanRuns.{plan_facts}
use Rattle.model.proofs.GivenPlans.{continued, given_rules, given_binary}
use Rattle.model.proofs.Agreement.{passing_runs}

-- ---- a plan that meets the rules
module _ (P : Plant) (R : PlantRanges P) (x : Plan) (b : Binary P x) (r : RulesHold P x) where
  amounts : (w : ℕ) → w < P.weeks → AmountModel P x w
  amounts = amounts_of P x r

  minutes_most : (w i : ℕ) → w < P.weeks → i < P.products → x.line.minutes w i ≤ most_week_minutes
  minutes_most w i l k = omega (arith, (rules_times P x r w l).longest_run i k, mul-le-mul R.week_most (b.assigned w i l k))

  position_most : (w i : ℕ) → w < P.weeks → i < P.products → x.line.position w i ≤ 16
  unfolding week_of
  position_most w i l k =
      omega (arith, (plan_facts P x b r w l).high i k, sum_few 1 (x.line.assigned w) R.products_most (λ j m. b.assigned w j l m))

  inventory_most : (w i : ℕ) → w < P.weeks → i < P.products → x.inventory w i ≤ most_storage
  inventory_most w i l k = omega (arith, (amounts w l).storage_most i k, R.storage_most i k)

  -- backlog grows by a week's demand at most
  before_most : (n c i : ℕ) → n ≤ P.weeks → c < P.customers → i < P.products → backlog_before P x n c i ≤ most_opening_backlog + n * most_demand
  unfolding backlog_before
  before_most zero c i l j k = omega (arith, R.opening_backlog_most c i j k, kind_backlog P.kind)
  before_most (suc n) c i l j k =
      omega (arith, (amounts n (omega arith)).backlogs c i j k, before_most n c i (omega arith) j k, R.demand_most c i n j k (omega arith))

  -- so do backlog and sales together
  due_most : (c i w : ℕ) → c < P.customers → i < P.products → w < P.weeks → x.backlog c i w + x.sales c i w ≤ most_backlog
  due_most c i w j k l =
      omega (arith, (amounts w l).backlogs c i j k, before_most w c i (omega arith) j k, R.demand_most c i w j k l, R.weeks_most)

  sales_most : (c i w : ℕ) → c < P.customers → i < P.products → w < P.weeks → x.sales c i w ≤ most_backlog
  sales_most c i w j k l = omega (arith, due_most c i w j k l)

  backlog_most : (c i w : ℕ) → c < P.customers → i < P.products → w < P.weeks → x.backlog c i w ≤ most_backlog
  backlog_most c i w j k l = omega (arith, due_most c i w j k l)

  -- a changeover costs at most `most_changeover_cents`
  changeovers_most : (marks : ℕ → ℕ → ℕ) → ((i j : ℕ) → i < P.products → j < P.products → marks i j ≤ 1)
      → changeovers_under P.products P.line.changeover_cents marks ≤ most_products * (most_products * (1 * most_changeover_cents))
  unfolding changeovers_under
  changeovers_most marks h =
      grid_most (1 * most_changeover_cents) (λ i j. marks i j * changeover_between P.line.changeover_cents i j) R.products_most R.products_most
      (λ i j k m. mul-le-mul (h i j k m) (between_most P.products most_changeover_cents P.line.changeover_cents R.line.cents_most i j k m))

  -- sales and backlog cost at most products, customers and weeks times most_unit_cost * most_backlog, changeovers and inventory less
  profit_most : mag x.profit < 2 ^ 63
  unfolding profit_of revenue_in changeover_charge_in backlog_charge_in inventory_charge_in changeovers_in
  profit_most =
      let W = P.weeks in
      let gained = revenue_in P x in
      let over = changeover_charge_in P x in
      let late = backlog_charge_in P x in
      let held = inventory_charge_in P x in
      let s : sum_below W gained ≤ most_weeks * (most_customers * (most_products * (most_unit_cost * most_backlog))) =
      sum_few (most_customers * (most_products * (most_unit_cost * most_backlog))) gained R.weeks_most (λ w l.
      grid_most (most_unit_cost * most_backlog) (λ c i. P.price c i * x.sales c i w) R.customers_most R.products_most
      (λ c i j k. mul-le-mul (R.price_most c i j k) (sales_most c i w j k l))) in
      let z : sum_below W over ≤ most_weeks * (1000 * (2 * (most_products * (most_products * (1 * most_changeover_cents))))) =
      sum_few (1000 * (2 * (most_products * (most_products * (1 * most_changeover_cents))))) over R.weeks_most (λ w l.
      omega (
        arith,
        changeovers_most (x.line.changeover w) (λ i j k m. b.changeover w i j l k m),
        changeovers_most (x.line.week_changeover w) (λ i j k m. b.week_changeover w i j l k m),
      )) in
      let d : sum_below W late ≤ most_weeks * (most_customers * (most_products * (most_unit_cost * most_backlog))) =
      sum_few (most_customers * (most_products * (most_unit_cost * most_backlog))) late R.weeks_most (λ w l.
      grid_most (most_unit_cost * most_backlog) (λ c i. P.backlog_cost c i * x.backlog c i w) R.customers_most R.products_most
      (λ c i j k. mul-le-mul (R.backlog_cost_most c i j k) (backlog_most c i w j k l))) in
      let v : sum_below W held ≤ most_weeks * (most_products * (most_unit_cost * most_storage)) =
      sum_few (most_products * (most_unit_cost * most_storage)) held R.weeks_most (λ w l.
      sum_few (most_unit_cost * most_storage) (λ i. P.inventory_cost i * x.inventory w i) R.products_most
      (λ i k. mul-le-mul (R.inventory_cost_most i k) (inventory_most w i l k))) in
      let sales = pos (sum_below W gained) in
      let changed = sales -ℤ pos (sum_below W over) in
      let delayed = changed -ℤ pos (sum_below W late) in
      rw (profit_of_lem P x r)
      (omega (arith, mag_sub sales (sum_below W over), mag_sub changed (sum_below W late), mag_sub delayed (sum_below W held), s, z, d, v))

  pub plan_fits : PlanFits (shape_of_plant P) x
  plan_fits =
      record {
        line = record {
          assigned = λ w i l k. omega (arith, b.assigned w i l k);
          first = λ w i l k. omega (arith, b.first w i l k);
          last = λ w i l k. omega (arith, b.last w i l k);
          changeover = λ w i j l k m. omega (arith, b.changeover w i j l k m);
          week_changeover = λ w i j l k m. omega (arith, b.week_changeover w i j l k m);
          position = λ w i l k. omega (arith, position_most w i l k);
          minutes = λ w i l k. omega (arith, minutes_most w i l k);
        };
        production = λ w i l k. omega (arith, (amounts w l).produced i k, mul-le-mul (R.line.rate_most i k) (minutes_most w i l k));
        sales = λ c i w j k l. omega (arith, sales_most c i w j k l);
        inventory = λ w i l k. omega (arith, inventory_most w i l k);
        backlog = λ c i w j k l. omega (arith, backlog_most c i w j k l);
        profit = record { sfits = profit_most };
      }

-- ---- slots
minutes_at : (xs : List Slot) (k : ℕ) → k < length xs → (get_or xs k no_slot).minutes ≤ total_minutes xs
minutes_at [] k l = absurd (omega arith)
minutes_at (x ∷ xs) zero l = omega arith
minutes_at (x ∷ xs) (suc k) l = omega (arith, minutes_at xs k (omega arith))

module _ {P : Plant} (R : PlantRanges P) {S : Slots} {s : State} {x : Plan} (g : Gives P S s x) where
  -- the plan that slots give fits its sections
  pub run_fits : PlanFits (shape_of_plant P) x
  run_fits = plan_fits P R x (given_binary R g) (given_rules R g)

  -- and the slots fit theirs
  pub slots_fit : SlotsFit (shape_of_plant P) S
  unfolding run_tables
  slots_fit =
      record {
        formed = g.formed;
        minutes = λ w k l m. omega (
          arith,
          minutes_at (S.line.week w) k m,
          clock P R S w (g.formed w l) ((continued R g).0 w l),
          R.week_most,
        );
        sales = λ c i w j k l. omega (arith, g.same.sales c i w j k l, run_fits.sales c i w j k l);
      }

-- so do the slots that a passing plan shows
pub shown_fit : {P : Plant} → PlantRanges P → {x : Plan} {q : Profit} → Binary P x → verdict_of P x ≡ Ok q
    → SlotsFit (shape_of_plant P) (slots_shown P.products x)
shown_fit R b e = slots_fit R (passing_runs R b e).0
