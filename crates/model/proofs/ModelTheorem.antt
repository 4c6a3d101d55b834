-- The rules are the planning model of source 004: a plan of binary tables passes exactly where it meets the model's constraints and its
-- profit is the model's objective. Assumes nothing.
use Prim.Native.Nat.{ℕ, ◌+◌, ◌*◌, ◌<◌, ◌≤◌}
use mathlib.Core.Path.{◌≡◌, sym, ap, ◌∙◌}
use mathlib.Core.Logic.{◌↔◌, ◌⊎◌, inl, inr}
use mathlib.Core.Bool.{cond}
use native.Mathlib.Omega.{arith}
use native.Mathlib.Nat.{mul_comm}
use native.Mathlib.Decide.{ℕ_discrete}
use lib.Dec.{eqb}
use lib.IntN.{pos, ◌-ℤ◌}
use borrow.Author.Tests.{eq-eqb, ne_eqb}
use Rattle.mathematics.specs.Below.{sum_below}
use Rattle.mathematics.specs.Week.{NoProduct, Meets}
use Rattle.mathematics.proofs.Below.{sum_ext, sum_zero, sum_add, sum_mul, sum_swap, sum_mono, sum_const}
use Rattle.mathematics.proofs.Sums.{bit_zero}
use Rattle.mathematics.proofs.WeekRules.{WeekFacts, one_last}
use Rattle.mathematics.proofs.WeekPositions.{some_first}
use Rattle.mathematics.proofs.OrderTheorem.{facts_meet, shut_zero, zero_facts}
use Rattle.plant_file.specs.Plant.{Plant}
use Rattle.plant_file.specs.Ranges.{PlantRanges}
use Rattle.plan_file.specs.Plan.{LinePlan, Plan}
use Rattle.units.specs.declared.Profit.{Profit}
use Rattle.std.specs.Prelude.{Ok}
use Rattle.costs.specs.Changeover.{changeover_between}
use Rattle.rules.specs.Rules.{week_of, changeovers_under, changeovers_in, revenue_in, changeover_charge_in, backlog_charge_in, inventory_charge_in, profit_of}
use Rattle.rules.specs.Verdict.{verdict_of}
use Rattle.model.specs.Model.{sum_others, Binary, OrderModel, Model, objective}
use Rattle.model.proofs.Grids.{sum_grid, grid_ext}
use Rattle.model.proofs.Money.{lose_both}
use Rattle.model.proofs.RuleFacts.{RulesHold, verdict_rules, rules_verdict, rules_times, amounts_of}
use Rattle.model.proofs.RuleFacts.{passage_facts, facts_passage, rules_hold, profit_of_lem}
use Rattle.model.proofs.PlanRuns.{plan_facts}

-- ---- sums
-- where the term left out is 0
others_all : (n k : ℕ) (f : ℕ → ℕ) → (k < n → f k ≡ 0) → sum_others n k f ≡ sum_below n f
others_all n k f z = sum_ext n (λ i. cond (eqb i k) 0 (f i)) f (λ i l. elim (ℕ_discrete i k) [
  | yes e ↦ rw (eq-eqb i k e) (sym (ap f e ∙ z (omega arith)))
  | no d ↦ rw (ne_eqb i k d)
])

-- a sum over weeks of sums over rows and columns, either way
weeks_grid : (W n m : ℕ) (f : ℕ → ℕ → ℕ → ℕ) → sum_below W (λ w. sum_grid n m (λ i j. f i j w)) ≡ sum_grid n m (λ i j. sum_below W (f i j))
weeks_grid W n m f =
    sum_swap W n (λ w i. sum_below m (λ j. f i j w))
    ∙ sum_ext n (λ i. sum_below W (λ w. sum_below m (λ j. f i j w))) (λ i. sum_below m (λ j. sum_below W (f i j)))
    (λ i l. sum_swap W m (λ w j. f i j w))

-- ---- the objective
module _ (P : Plant) (R : PlantRanges P) where
  -- the cents under marks of n weeks: a product to itself takes none
  cents_under : (n : ℕ) (marks : ℕ → ℕ → ℕ → ℕ) → sum_below n (λ w. changeovers_under P.products P.line.changeover_cents (marks w))
      ≡ sum_below P.products (λ i. sum_others P.products i (λ j. sum_below n (λ w. P.line.changeover_cents i j * marks w i j)))
  unfolding changeovers_under changeover_between
  cents_under n marks =
      let N = P.products in
      let c = P.line.changeover_cents in
      let total : ℕ → ℕ → ℕ = λ i j. sum_below n (λ w. c i j * marks w i j) in
      sum_ext n (λ w. sum_grid N N (λ i j. marks w i j * c i j)) (λ w. sum_grid N N (λ i j. c i j * marks w i j))
      (λ w l. grid_ext N N (λ i j. marks w i j * c i j) (λ i j. c i j * marks w i j) (λ i j _ _. mul_comm (marks w i j) (c i j)))
      ∙ (weeks_grid n N N (λ i j w. c i j * marks w i j)
      ∙ sym (sum_ext N (λ i. sum_others N i (total i)) (λ i. sum_below N (total i)) (λ i l.
      others_all N i (total i) (λ k. sum_zero n (λ w. c i i * marks w i i) (λ w m. rw (R.line.cents_diagonal i l) (omega arith))))))

  module _ (x : Plan) where
    -- over the weeks: changeovers within them and between them
    changeover_cents : sum_below P.weeks (changeover_charge_in P x)
        ≡ 1000 * sum_below P.weeks (λ w. changeovers_under P.products P.line.changeover_cents (x.line.changeover w))
        + 1000 * sum_below P.weeks (λ w. changeovers_under P.products P.line.changeover_cents (x.line.week_changeover w))
    unfolding changeover_charge_in changeovers_in
    changeover_cents =
        let W = P.weeks in
        let within : ℕ → ℕ = λ w. changeovers_under P.products P.line.changeover_cents (x.line.changeover w) in
        let between : ℕ → ℕ = λ w. changeovers_under P.products P.line.changeover_cents (x.line.week_changeover w) in
        omega (
          arith,
          sum_ext W (λ w. 1000 * (within w + between w)) (λ w. (within w + between w) * 1000) (λ w l. omega arith),
          sum_mul W (λ w. within w + between w) 1000,
          sum_add W within between,
        )

    objective_profit : profit_of P x P.weeks ≡ objective P x
    unfolding objective profit_of revenue_in backlog_charge_in inventory_charge_in
    objective_profit =
        let W = P.weeks in
        let within = cents_under W x.line.changeover in
        let between = cents_under W x.line.week_changeover in
        let s = weeks_grid W P.customers P.products (λ c i w. P.price c i * x.sales c i w) in
        let d = weeks_grid W P.customers P.products (λ c i w. P.backlog_cost c i * x.backlog c i w) in
        let v = sum_swap W P.products (λ w i. P.inventory_cost i * x.inventory w i) in
        let sales = sum_grid P.customers P.products (λ c i. sum_below W (λ w. P.price c i * x.sales c i w)) in
        let z = sym (lose_both (pos sales) _ _ (sum_below W (changeover_charge_in P x)) (sym changeover_cents)) in
        (λ u. pos (s u) -ℤ pos (sum_below W (changeover_charge_in P x)) -ℤ pos (sum_below W (backlog_charge_in P x)) -ℤ pos (sum_below W (inventory_charge_in P x)))
        ∙ ((λ u. z u -ℤ pos (d u) -ℤ pos (v u)) ∙ (λ u. pos sales -ℤ pos (1000 * within u) -ℤ pos (1000 * between u) -ℤ pos (d 1) -ℤ pos (v 1)))

-- ---- the constraints on the order of one week
module _ (N : ℕ) (x : LinePlan) (w : ℕ) where
  facts_order : WeekFacts N (week_of x w) → sum_below N (x.first w) ≡ 1 → OrderModel N x w
  unfolding week_of
  facts_order f one =
      let z = x.changeover w in
      let self : (i : ℕ) → i < N → z i i ≡ 0 = λ i l. bit_zero (z i i) (f.changeover_bit i l i l) (λ e. omega (arith, f.rises i l i l e)) in
      let most : (i : ℕ) → i < N → x.position w i ≤ N =
      λ i l. omega (arith, f.high i l, sum_mono N (x.assigned w) (λ k. 1) f.assigned_bit, sum_const N 1) in
      record {
        one_first = one;
        one_last = one_last f ∙ one;
        first_assigned = λ i l. omega (arith, f.into i l);
        last_assigned = λ i l. omega (arith, f.out i l);
        not_itself = self;
        into = λ j l. omega (arith, f.into j l, others_all N j (λ i. z i j) (self j));
        out = λ i l. omega (arith, f.out i l, others_all N i (z i) (self i));
        rises = λ i j l m. elim (ℕ_discrete (z i j) 1) [
          | yes e ↦ omega (arith, f.rises i l j m e)
          | no d ↦ (let e : z i j ≡ 0 = omega (arith, f.changeover_bit i l j m) in rw e (omega (arith, most i l)))
        ];
        absent = λ i l. elim (ℕ_discrete (x.assigned w i) 0) [
          | yes e ↦ omega (arith, f.absent i l e)
          | no d ↦ (let e : x.assigned w i ≡ 1 = omega (arith, f.assigned_bit i l) in rw e (omega (arith, most i l)))
        ];
        least_index = f.low;
        most_index = f.high;
      }

  -- there is a product, or none at all
  facts_model : WeekFacts N (week_of x w) → OrderModel N x w ⊎ NoProduct N (week_of x w)
  unfolding week_of
  facts_model f = elim (ℕ_discrete (sum_below N (x.assigned w)) 0) [
    | yes e ↦ inr (shut_zero N (week_of x w) f e)
    | no d ↦ inl (facts_order f (some_first N (week_of x w) f (omega arith)))
  ]

  model_facts : ((i : ℕ) → i < N → x.assigned w i ≤ 1) → ((i j : ℕ) → i < N → j < N → x.changeover w i j ≤ 1)
      → OrderModel N x w ⊎ NoProduct N (week_of x w) → WeekFacts N (week_of x w)
  unfolding week_of
  model_facts assigned changeover (inr m) = zero_facts N (week_of x w) m
  model_facts assigned changeover (inl m) =
      let z = x.changeover w in
      record {
        assigned_bit = assigned;
        changeover_bit = λ i k j n. changeover i j k n;
        one_first = omega (arith, m.one_first);
        into = λ j k. omega (arith, m.into j k, others_all N j (λ i. z i j) (m.not_itself j));
        out = λ i k. omega (arith, m.out i k, others_all N i (z i) (m.not_itself i));
        absent = λ i k e. omega (arith, rw e at (m.absent i k));
        low = m.least_index;
        high = m.most_index;
        rises = λ i k j n e. omega (arith, rw e at (m.rises i j k n));
      }

-- ---- the whole plan
module _ (P : Plant) (R : PlantRanges P) (x : Plan) where
  module _ (r : RulesHold P x) where
    rules_profit : x.profit ≡ objective P x
    rules_profit = profit_of_lem P x r ∙ objective_profit P R x

    rules_model : Binary P x → Model P x
    rules_model b =
        record {
          binary = b;
          order = λ w l. facts_model P.products x.line w (plan_facts P x b r w l);
          times = rules_times P x r;
          amounts = amounts_of P x r;
          between = λ w l. passage_facts P.products P.line x.line w (r.r33 w l);
        }

  module _ (m : Model P x) where
    meets : (w : ℕ) → w < P.weeks → Meets P.products (week_of x.line w)
    meets w l =
        facts_meet P.products (week_of x.line w)
        (model_facts P.products x.line w (λ i. m.binary.assigned w i l) (λ i j. m.binary.changeover w i j l) (m.order w l))

    model_holds : x.profit ≡ objective P x → RulesHold P x
    model_holds e =
        rules_hold P x meets (λ w l. facts_passage P.products P.line x.line w (m.between w l)) m.times m.amounts
        (e ∙ sym (objective_profit P R x))

-- a plan of binary tables passes exactly where it meets the constraints of the model and its profit is the objective
pub model_rules : {P : Plant} → PlantRanges P → {x : Plan} → Binary P x
    → ((q : Profit) × (verdict_of P x ≡ Ok q)) ↔ (Model P x × (x.profit ≡ objective P x))
model_rules {P} R {x} b = (
  λ r. (let h = (verdict_rules P x r.0 r.1).0 in (rules_model P R x h b, rules_profit P R x h)),
  λ m. (record { 0 = x.profit }, rules_verdict P x (model_holds P R x m.0 m.1)),
)

-- the profit passed is the objective
pub passed_objective : {P : Plant} → PlantRanges P → (x : Plan) {q : Profit} → verdict_of P x ≡ Ok q → q.0 ≡ objective P x
passed_objective {P} R x {q} e = let r = verdict_rules P x q e in sym r.1 ∙ rules_profit P R x r.0
