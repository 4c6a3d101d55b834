-- Plans with the same tables meet the same rules. Assumes nothing.
use Prim.Native.Nat.{ℕ, zero, suc, ◌*◌, ◌<◌, ◌≤◌}
use mathlib.Core.Path.{◌≡◌, refl, sym, ap, ◌∙◌}
use mathlib.Core.Bool.{true, cond}
use native.Mathlib.Omega.{arith}
use lib.IntN.{pos, ◌-ℤ◌}
use Rattle.mathematics.specs.Order.{Agree}
use Rattle.mathematics.proofs.Below.{sum_ext}
use Rattle.mathematics.proofs.WeekRules.{shut_agree}
use Rattle.plant_file.specs.Plant.{LinePlant, Plant, shape_of_plant}
use Rattle.plan_file.specs.Plan.{LinePlan, Plan, Same2, Same3, SameLinePlan, SamePlan}
use Rattle.sections.specs.declared.Shape.{Shape}
use Rattle.costs.specs.Changeover.{changeover_between}
use Rattle.costs.specs.Money.{changeover_charge_of}
use Rattle.rules.specs.Rules.{week_of, production_end, mounted_after, mounted_before, rule33, changeovers_under, changeovers_in, backlog_before, inventory_before}
use Rattle.rules.specs.Rules.{revenue_in, changeover_charge_in, backlog_charge_in, inventory_charge_in, profit_of}
use Rattle.rules.proofs.Weeks.{mounted_next}
use Rattle.model.specs.Model.{TimeModel, AmountModel}
use Rattle.model.proofs.Grids.{grid_ext}
use Rattle.model.proofs.RuleFacts.{under_minutes, passage_facts, facts_passage, Times}

-- ---- a line, of N products
module _ {f : Shape} {x y : LinePlan} (m : SameLinePlan f x y) (w : ℕ) (l : w < f.weeks) where
  abbrev N : ℕ
  N = f.products

  pub week_agree : Agree N (week_of x w) (week_of y w)
  unfolding week_of
  week_agree =
      record {
        assigned = λ i k. m.assigned w i l k;
        first = λ i k. m.first w i l k;
        last = λ i k. m.last w i l k;
        position = λ i k. m.position w i l k;
        changeover = λ i k j n. m.changeover w i j l k n;
      }

  under_same : (table : ℕ → ℕ → ℕ) (a b : ℕ → ℕ → ℕ) → ((i j : ℕ) → i < N → j < N → a i j ≡ b i j) → changeovers_under N table a ≡ changeovers_under N table b
  unfolding changeovers_under
  under_same table a b h =
      grid_ext N N (λ i j. a i j * changeover_between table i j) (λ i j. b i j * changeover_between table i j) (λ i j k n. rw (h i j k n))

  pub changeovers_same : (table : ℕ → ℕ → ℕ) → changeovers_in N table x w ≡ changeovers_in N table y w
  unfolding changeovers_in
  changeovers_same table =
      omega (
        arith,
        under_same table (x.changeover w) (y.changeover w) (λ i j k n. m.changeover w i j l k n),
        under_same table (x.week_changeover w) (y.week_changeover w) (λ i j k n. m.week_changeover w i j l k n),
      )

  times_same : (shortest week : ℕ) (line : LinePlant) → TimeModel N shortest week line y w → TimeModel N shortest week line x w
  times_same shortest week line n =
      let e = m.assigned w in
      let t = m.minutes w in
      record {
        shortest_run = λ i k. rw (e i l k, t i l k) (n.shortest_run i k);
        longest_run = λ i k. rw (e i l k, t i l k) (n.longest_run i k);
        time = omega (
          arith,
          n.time,
          under_minutes N line x w line.changeover_minutes,
          under_minutes N line y w line.changeover_minutes,
          sum_ext N (x.minutes w) (y.minutes w) (λ i k. t i l k),
          changeovers_same line.changeover_minutes,
        );
      }

mounted_same : {f : Shape} {x y : LinePlan} → SameLinePlan f x y → (line : LinePlant) (w : ℕ) → w < f.weeks → (i : ℕ) → i < f.products
    → mounted_before f.products line x w i ≡ mounted_before f.products line y w i
unfolding mounted_before mounted_after production_end
mounted_same m line zero l i k = refl
mounted_same {f} {x} {y} m line (suc w) l i k =
    let same = shut_agree f.products (week_of x w) (week_of y w) (week_agree m w (omega arith)) in
    let earlier = mounted_same m line w (omega arith) i k in
    mounted_next f.products x line w i
    ∙ ((λ u. cond (same u) (earlier u) (m.last w i (omega arith) k u)) ∙ sym (mounted_next f.products y line w i))

pub passages_same : {f : Shape} {x y : LinePlan} → SameLinePlan f x y → (line : LinePlant) (w : ℕ) → w < f.weeks
    → rule33 f.products line y w ≡ true → rule33 f.products line x w ≡ true
passages_same {f} {x} {y} m line w l h =
    let N = f.products in
    let r = passage_facts N line y w h in
    let z = m.week_changeover w in
    let before = mounted_same m line w l in
    let all = sum_ext N (mounted_before N line x w) (mounted_before N line y w) before in
    let first = sum_ext N (x.first w) (y.first w) (λ i k. m.first w i l k) in
    facts_passage N line x w (record {
      into_first = λ j k.
          sum_ext N (λ i. x.week_changeover w i j) (λ i. y.week_changeover w i j) (λ i a. z i j l a k)
          ∙ (r.into_first j k ∙ (λ u. sym (m.first w j l k) u * sym all u));
      out_of_mounted = λ i k.
          sum_ext N (x.week_changeover w i) (y.week_changeover w i) (λ j a. z i j l k a)
          ∙ (r.out_of_mounted i k ∙ (λ u. sym (before i k) u * sym first u));
    })

-- ---- the plant
-- the same numbers but for the profit, which follows from them
pub record SameTables (P : Plant) (x y : Plan) : Type 0 where
  pub line : SameLinePlan (shape_of_plant P) x.line y.line
  pub production : Same2 P.weeks P.products x.production y.production
  pub sales : Same3 P.customers P.products P.weeks x.sales y.sales
  pub inventory : Same2 P.weeks P.products x.inventory y.inventory
  pub backlog : Same3 P.customers P.products P.weeks x.backlog y.backlog

pub same_tables : {P : Plant} {x y : Plan} → SamePlan (shape_of_plant P) x y → SameTables P x y
same_tables m = record { line = m.line; production = m.production; sales = m.sales; inventory = m.inventory; backlog = m.backlog }

module _ (P : Plant) (x y : Plan) (m : SameTables P x y) where
  pub profit_same : (n : ℕ) → n ≤ P.weeks → profit_of P x n ≡ profit_of P y n
  unfolding profit_of revenue_in changeover_charge_in backlog_charge_in inventory_charge_in
  profit_same n h =
      let a = sum_ext n (revenue_in P x) (revenue_in P y) (λ w l.
      grid_ext P.customers P.products (λ c i. P.price c i * x.sales c i w) (λ c i. P.price c i * y.sales c i w)
      (λ c i j k. rw (m.sales c i w j k (omega arith)))) in
      let b = sum_ext n (changeover_charge_in P x) (changeover_charge_in P y) (λ w l.
      ap changeover_charge_of (changeovers_same m.line w (omega arith) P.line.changeover_cents)) in
      let c = sum_ext n (backlog_charge_in P x) (backlog_charge_in P y) (λ w l.
      grid_ext P.customers P.products (λ c i. P.backlog_cost c i * x.backlog c i w) (λ c i. P.backlog_cost c i * y.backlog c i w)
      (λ c i j k. rw (m.backlog c i w j k (omega arith)))) in
      let d = sum_ext n (inventory_charge_in P x) (inventory_charge_in P y) (λ w l.
      sum_ext P.products (λ i. P.inventory_cost i * x.inventory w i) (λ i. P.inventory_cost i * y.inventory w i)
      (λ i k. rw (m.inventory w i (omega arith) k))) in
      λ i. pos (a i) -ℤ pos (b i) -ℤ pos (c i) -ℤ pos (d i)

  pub backlog_same : (w c i : ℕ) → w < P.weeks → c < P.customers → i < P.products → backlog_before P x w c i ≡ backlog_before P y w c i
  unfolding backlog_before
  backlog_same zero c i l j k = refl
  backlog_same (suc w) c i l j k = m.backlog c i w j k (omega arith)

  pub inventory_same : (w i : ℕ) → w < P.weeks → i < P.products → inventory_before P x w i ≡ inventory_before P y w i
  unfolding inventory_before
  inventory_same zero i l k = refl
  inventory_same (suc w) i l k = m.inventory w i (omega arith) k

  pub plan_times_same : (w : ℕ) → w < P.weeks → Times P y w → Times P x w
  plan_times_same w l = times_same m.line w l P.shortest_run P.week_minutes P.line

  pub amounts_same : (w : ℕ) → w < P.weeks → AmountModel P y w → AmountModel P x w
  amounts_same w l n =
      record {
        produced = λ i k. rw (m.production w i l k, m.line.minutes w i l k) (n.produced i k);
        backlogs = λ c i j k. omega (arith, n.backlogs c i j k, m.backlog c i w j k l, m.sales c i w j k l, backlog_same w c i l j k);
        inventories = λ i k. omega (
          arith,
          n.inventories i k,
          m.inventory w i l k,
          m.production w i l k,
          inventory_same w i l k,
          sum_ext P.customers (λ c. x.sales c i w) (λ c. y.sales c i w) (λ c j. m.sales c i w j k l),
        );
        storage_least = λ i k. omega (arith, n.storage_least i k, m.inventory w i l k);
        storage_most = λ i k. omega (arith, n.storage_most i k, m.inventory w i l k);
      }
