-- What a passing verdict says, rule by rule, and rules 33 and 35 to 40 as facts about numbers; both ways. Assumes nothing.
use Rattle.sections.specs.declared.Refusal.{Refusal}
use Prim.Native.Nat.{ℕ, ◌+◌, ◌*◌, ◌<◌, ◌≤◌}
use Prim.{Unit, tt}
use mathlib.Core.Path.{◌≡◌, refl, ap, ◌∙◌}
use mathlib.Core.Bool.{Bool, true, false}
use mathlib.Core.List.{List, [], ◌∷◌}
use native.Mathlib.Omega.{arith}
use lib.Dec.{eqb}
use borrow.Author.Tests.{leb-true, le-leb, eqb-true, eq-eqb}
use Rattle.mathematics.specs.Below.{sum_below, all_below, within}
use Rattle.mathematics.specs.Week.{rule31, rule32, rule34, Meets}
use Rattle.mathematics.proofs.Below.{and_both, both_and, all_each, each_all, within_at, at_within}
use Rattle.mathematics.proofs.Sums.{all_equal, equal_all}
use Rattle.plant_file.specs.Plant.{LinePlant, Plant}
use Rattle.plan_file.specs.Plan.{LinePlan, Plan}
use Rattle.units.specs.declared.Profit.{Profit}
use Rattle.costs.specs.Changeover.{changeover_between}
use Rattle.std.specs.Prelude.{Ok}
use Rattle.rules.specs.Rules.{week_of, rule33, rule35, rule36, rule37, rule38, rule39, rule40, rule41, changeovers_under, changeovers_in}
use Rattle.rules.specs.Rules.{backlog_before, inventory_before, profit_of}
use Rattle.rules.specs.Verdict.{Verdict, Trial, rule, trials, tried, profit_tried, verdict_of}
use Rattle.model.specs.Model.{TimeModel, BetweenModel, AmountModel}
use Rattle.model.proofs.Money.{same_equal, equal_same}
use Rattle.mathematics.proofs.Tables.{all_grid, grid_all}
use Rattle.model.proofs.Changeovers.{under_add}
use Rattle.sections.specs.declared.Refusal.TheVariants as refusal

-- ---- the verdict
-- each of these rules holds in every week
abbrev Kept : ℕ → List Trial → Type 0
Kept weeks [] = Unit {0}
Kept weeks (t ∷ ts) = ((w : ℕ) → w < weeks → t.keeps w ≡ true) × Kept weeks ts

rule_passed : (n : Refusal) (t : Bool) (next : Verdict) (q : Profit) → rule n t next ≡ Ok q → (t ≡ true) × (next ≡ Ok q)
rule_passed n true next q e = (refl, e)
rule_passed n false next q e = absurd (let z : ◌≡◌ {A = ℕ} 0 1 = cc in omega arith)

tried_kept : (weeks : ℕ) (ts : List Trial) (last : Verdict) (q : Profit) → tried weeks ts last ≡ Ok q → Kept weeks ts × (last ≡ Ok q)
unfolding tried
tried_kept weeks [] last q e = (tt, e)
tried_kept weeks (t ∷ ts) last q e =
    let a = rule_passed t.refusal (all_below weeks t.keeps) (tried weeks ts last) q e in
    let b = tried_kept weeks ts last q a.1 in
    ((all_each weeks t.keeps a.0, b.0), b.1)

kept_tried : (weeks : ℕ) (ts : List Trial) (last : Verdict) → Kept weeks ts → tried weeks ts last ≡ last
unfolding tried
kept_tried weeks [] last k = refl
kept_tried weeks (t ∷ ts) last k = rw (each_all weeks t.keeps k.0) (kept_tried weeks ts last k.1)

same_profit : (p q : Profit) → ◌≡◌ {A = Verdict} (Ok p) (Ok q) → p.0 ≡ q.0
same_profit p q e = let h : p ≡ q = cc in ap (λ (z : Profit). z.0) h

-- every rule holds in every week
pub record RulesHold (P : Plant) (x : Plan) : Type 0 where
  pub r31 : (w : ℕ) → w < P.weeks → rule31 P.products (week_of x.line w) ≡ true
  pub r32 : (w : ℕ) → w < P.weeks → rule32 P.products (week_of x.line w) ≡ true
  pub r33 : (w : ℕ) → w < P.weeks → rule33 P.products P.line x.line w ≡ true
  pub r34 : (w : ℕ) → w < P.weeks → rule34 P.products (week_of x.line w) ≡ true
  pub r35 : (w : ℕ) → w < P.weeks → rule35 P.products P.shortest_run P.week_minutes x.line w ≡ true
  pub r36 : (w : ℕ) → w < P.weeks → rule36 P.products P.week_minutes P.line x.line w ≡ true
  pub r37 : (w : ℕ) → w < P.weeks → rule37 P x w ≡ true
  pub r38 : (w : ℕ) → w < P.weeks → rule38 P x w ≡ true
  pub r39 : (w : ℕ) → w < P.weeks → rule39 P x w ≡ true
  pub r40 : (w : ℕ) → w < P.weeks → rule40 P x w ≡ true
  pub r41 : rule41 P x ≡ true

module _ (P : Plant) (x : Plan) where
  pub verdict_rules : (q : Profit) → verdict_of P x ≡ Ok q → RulesHold P x × (x.profit ≡ q.0)
  unfolding verdict_of trials profit_tried
  verdict_rules q e =
      let a = tried_kept P.weeks (trials P x) (profit_tried P x) q e in
      let k = a.0 in
      let l = rule_passed refusal.Profit (rule41 P x) (Ok (record { 0 = x.profit })) q a.1 in (
        record {
          r31 = k.0;
          r32 = k.1.0;
          r33 = k.1.1.0;
          r34 = k.1.1.1.0;
          r35 = k.1.1.1.1.0;
          r36 = k.1.1.1.1.1.0;
          r37 = k.1.1.1.1.1.1.0;
          r38 = k.1.1.1.1.1.1.1.0;
          r39 = k.1.1.1.1.1.1.1.1.0;
          r40 = k.1.1.1.1.1.1.1.1.1.0;
          r41 = l.0;
        },
        same_profit (record { 0 = x.profit }) q l.1,
      )

  pub rules_verdict : RulesHold P x → verdict_of P x ≡ Ok (record { 0 = x.profit })
  unfolding verdict_of trials profit_tried
  rules_verdict r =
      kept_tried P.weeks (trials P x) (profit_tried P x)
      (r.r31, (r.r32, (r.r33, (r.r34, (r.r35, (r.r36, (r.r37, (r.r38, (r.r39, (r.r40, tt))))))))))
      ∙ rw r.r41

-- ---- tests over all indices
module _ (n : ℕ) (f g h : ℕ → ℕ) where
  all_within : all_below n (λ i. within (f i) (h i) (g i)) ≡ true → (i : ℕ) → i < n → (f i ≤ g i) × (g i ≤ h i)
  all_within e i l = within_at (f i) (h i) (g i) (all_each n (λ u. within (f u) (h u) (g u)) e i l)

  within_all : ((i : ℕ) → i < n → f i ≤ g i) → ((i : ℕ) → i < n → g i ≤ h i) → all_below n (λ i. within (f i) (h i) (g i)) ≡ true
  within_all p q = each_all n (λ u. within (f u) (h u) (g u)) (λ i l. at_within (f i) (h i) (g i) (p i l) (q i l))

module _ (n m : ℕ) (f g : ℕ → ℕ → ℕ) where
  grid_equal : all_below n (λ i. all_below m (λ j. eqb (f i j) (g i j))) ≡ true → (i j : ℕ) → i < n → j < m → f i j ≡ g i j
  grid_equal h i j l k = eqb-true (f i j) (g i j) (all_grid n m (λ u v. eqb (f u v) (g u v)) h i j l k)

  equal_grid : ((i j : ℕ) → i < n → j < m → f i j ≡ g i j) → all_below n (λ i. all_below m (λ j. eqb (f i j) (g i j))) ≡ true
  equal_grid h = grid_all n m (λ u v. eqb (f u v) (g u v)) (λ i j l k. eq-eqb (f i j) (g i j) (h i j l k))

-- ---- the rules of a line
module _ (N : ℕ) (l : LinePlant) (x : LinePlan) (w : ℕ) where
  -- 33
  pub passage_facts : rule33 N l x w ≡ true → BetweenModel N l x w
  unfolding rule33
  passage_facts h =
      let b = and_both _ _ h in
      record { into_first = all_equal N _ _ b.0; out_of_mounted = all_equal N _ _ b.1 }

  pub facts_passage : BetweenModel N l x w → rule33 N l x w ≡ true
  unfolding rule33
  facts_passage b = both_and _ _ (equal_all N _ _ b.into_first) (equal_all N _ _ b.out_of_mounted)

  -- the changeover minutes of (14), as rule 36 has them
  pub under_minutes : (table : ℕ → ℕ → ℕ) → sum_below N (λ i. sum_below N (λ j. (x.changeover w i j + x.week_changeover w i j) * table i j))
      ≡ changeovers_in N table x w
  unfolding changeovers_in changeovers_under changeover_between
  under_minutes table = under_add N table (x.changeover w) (x.week_changeover w)

  -- 35 and 36
  module _ (shortest week : ℕ) where
    times_of : rule35 N shortest week x w ≡ true → rule36 N week l x w ≡ true → TimeModel N shortest week l x w
    unfolding rule35 rule36
    times_of h k =
        let t = all_within N (λ i. shortest * x.assigned w i) (x.minutes w) (λ i. week * x.assigned w i) h in
        record {
          shortest_run = λ i m. (t i m).0;
          longest_run = λ i m. (t i m).1;
          time = omega (arith, leb-true _ week k, under_minutes l.changeover_minutes);
        }

    holds35 : TimeModel N shortest week l x w → rule35 N shortest week x w ≡ true
    unfolding rule35
    holds35 n = within_all N (λ i. shortest * x.assigned w i) (x.minutes w) (λ i. week * x.assigned w i) n.shortest_run n.longest_run

    holds36 : TimeModel N shortest week l x w → rule36 N week l x w ≡ true
    unfolding rule36
    holds36 n = le-leb _ week (omega (arith, n.time, under_minutes l.changeover_minutes))

-- the times of a plan's line
abbrev pub Times : Plant → Plan → ℕ → Type 0
Times P x w = TimeModel P.products P.shortest_run P.week_minutes P.line x.line w

-- ---- 37 to 40
module _ (P : Plant) (x : Plan) where
  module _ (r : RulesHold P x) (w : ℕ) (l : w < P.weeks) where
    pub rules_times : Times P x w
    rules_times = times_of P.products P.line x.line w P.shortest_run P.week_minutes (r.r35 w l) (r.r36 w l)

    pub amounts_of : AmountModel P x w
    unfolding rule37 rule38 rule39 rule40
    amounts_of =
        let v = all_within P.products P.least_storage (x.inventory w) P.greatest_storage (r.r40 w l) in
        record {
          produced = all_equal P.products (x.production w) (λ i. P.line.rate i * x.line.minutes w i) (r.r37 w l);
          backlogs = grid_equal P.customers P.products (λ c i. x.backlog c i w + x.sales c i w)
              (λ c i. backlog_before P x w c i + P.demand c i w) (r.r38 w l);
          inventories = all_equal P.products (λ i. x.inventory w i + sum_below P.customers (λ c. x.sales c i w))
              (λ i. inventory_before P x w i + x.production w i) (r.r39 w l);
          storage_least = λ i k. (v i k).0;
          storage_most = λ i k. (v i k).1;
        }

  module _ (w : ℕ) (n : AmountModel P x w) where
    holds37 : rule37 P x w ≡ true
    unfolding rule37
    holds37 = equal_all P.products (x.production w) (λ i. P.line.rate i * x.line.minutes w i) n.produced

    holds38 : rule38 P x w ≡ true
    unfolding rule38
    holds38 =
        equal_grid P.customers P.products (λ c i. x.backlog c i w + x.sales c i w)
        (λ c i. backlog_before P x w c i + P.demand c i w) n.backlogs

    holds39 : rule39 P x w ≡ true
    unfolding rule39
    holds39 =
        equal_all P.products (λ i. x.inventory w i + sum_below P.customers (λ c. x.sales c i w))
        (λ i. inventory_before P x w i + x.production w i) n.inventories

    holds40 : rule40 P x w ≡ true
    unfolding rule40
    holds40 = within_all P.products P.least_storage (x.inventory w) P.greatest_storage n.storage_least n.storage_most

  -- ---- all rules from these facts
  pub rules_hold : ((w : ℕ) → w < P.weeks → Meets P.products (week_of x.line w))
      → ((w : ℕ) → w < P.weeks → rule33 P.products P.line x.line w ≡ true)
      → ((w : ℕ) → w < P.weeks → Times P x w) → ((w : ℕ) → w < P.weeks → AmountModel P x w) → x.profit ≡ profit_of P x P.weeks → RulesHold P x
  unfolding rule41
  rules_hold meets passages times amounts profit =
      let N = P.products in
      record {
        r31 = λ w l. (meets w l).meets31;
        r32 = λ w l. (meets w l).meets32;
        r33 = passages;
        r34 = λ w l. (meets w l).meets34;
        r35 = λ w l. holds35 N P.line x.line w P.shortest_run P.week_minutes (times w l);
        r36 = λ w l. holds36 N P.line x.line w P.shortest_run P.week_minutes (times w l);
        r37 = λ w l. holds37 w (amounts w l);
        r38 = λ w l. holds38 w (amounts w l);
        r39 = λ w l. holds39 w (amounts w l);
        r40 = λ w l. holds40 w (amounts w l);
        r41 = equal_same x.profit (profit_of P x P.weeks) profit;
      }

  -- the profit that rule 41 says
  pub profit_of_lem : RulesHold P x → x.profit ≡ profit_of P x P.weeks
  unfolding rule41
  profit_of_lem r = same_equal x.profit (profit_of P x P.weeks) r.r41
