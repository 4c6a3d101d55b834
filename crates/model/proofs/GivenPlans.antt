-- The plan that slots give, where their run does not stop: its weeks are orders, it meets the rules, and it shows the slots.
-- Assumes nothing.
use Prim.Native.Nat.{ℕ, suc, ◌+◌, ◌*◌, ◌<◌, ◌≤◌}
use mathlib.Core.Path.{◌≡◌, refl, sym, ap, ◌∙◌}
use mathlib.Core.Bool.{true}
use mathlib.Core.List.{List, [], ◌∷◌}
use native.Mathlib.Omega.{arith}
use native.Mathlib.Decide.{ℕ_discrete}
use Rattle.mathematics.specs.Below.{is}
use Rattle.mathematics.specs.Week.{Meets}
use Rattle.mathematics.specs.Order.{ProductsBelow, first_in, is_order, order_tables, Agree, assigned_in}
use Rattle.mathematics.proofs.Below.{is_same, is_other}
use Rattle.mathematics.proofs.Sums.{bit_part}
use Rattle.mathematics.proofs.WeekRules.{WeekFacts, first_bit, last_bit, week_facts}
use Rattle.mathematics.proofs.OrderTheorem.{order_meets}
use Rattle.plant_file.specs.Plant.{Plant}
use Rattle.plant_file.specs.Ranges.{PlantRanges}
use Rattle.plan_file.specs.Plan.{Plan}
use Rattle.slot_file.specs.Slots.{Slot, order_of_slots, Slots}
use Rattle.machine.specs.declared.State.{State}
use Rattle.machine.specs.State.{inventory_of, backlog_of}
use Rattle.machine.specs.Run.{after}
use Rattle.rules.specs.Rules.{week_of, mounted_before, backlog_before, inventory_before}
use Rattle.costs.specs.Mounted.{is_mounted}
use Rattle.model.specs.RunTables.{mounted_of, minutes_of, line_tables, mounted_at, run_tables}
use Rattle.model.specs.Model.{Binary, AmountModel}
use Rattle.model.specs.Match.{Gives}
use Rattle.model.proofs.Changeovers.{mounted_bit, mounted_of_lem, no_minutes}
use Rattle.model.proofs.RunStates.{mounted_below_lem, mounted_before_lem, after_profit, backlog_before_lem, inventory_before_lem}
use Rattle.model.proofs.Stops.{WeekContinues, run_continued}
use Rattle.model.proofs.RuleFacts.{RulesHold, Times, rules_hold}
use Rattle.model.proofs.SamePlans.{SameTables, same_tables, week_agree, profit_same, plan_times_same, amounts_same, passages_same}
use Rattle.model.proofs.SamePlans.{backlog_same, inventory_same}
use Rattle.model.proofs.RunRules.{run_order, run_times, run_amounts, run_passages}

module _ {P : Plant} (R : PlantRanges P) {S : Slots} {s : State} {x : Plan} (g : Gives P S s x) where
  pub continued : ((w : ℕ) → w < P.weeks → WeekContinues P S w) × (after P S P.weeks ≡ s)
  continued = run_continued P R S g.formed s g.runs

  tables : SameTables P x (run_tables P S)
  tables = same_tables g.same

  pub is_order_lem : (w : ℕ) → w < P.weeks → is_order P.products (order_of_slots (S.line.week w)) ≡ true
  is_order_lem w l = run_order P R S w (g.formed w l) (continued.0 w l)

  pub plan_agree : (w : ℕ) → w < P.weeks → Agree P.products (week_of x.line w) (order_tables (order_of_slots (S.line.week w)))
  unfolding week_of run_tables line_tables
  plan_agree w l = week_agree tables.line w l

  -- what the plan has before a week is what the run has then
  pub given_inventory : (w i : ℕ) → w < P.weeks → i < P.products → inventory_before P x w i ≡ inventory_of (after P S w) i
  given_inventory w i l k = inventory_same P x (run_tables P S) tables w i l k ∙ inventory_before_lem P S R w i k

  pub given_backlog : (w c i : ℕ) → w < P.weeks → c < P.customers → i < P.products
      → backlog_before P x w c i ≡ backlog_of P.products (after P S w) c i
  given_backlog w c i l j k = backlog_same P x (run_tables P S) tables w c i l j k ∙ backlog_before_lem P S R w c i j k

  pub given_mounted : (w : ℕ) → w < P.weeks → mounted_of P.products (mounted_before P.products P.line x.line w) ≡ mounted_at P S w
  given_mounted w l =
      mounted_of_lem P.products (mounted_at P S w) (mounted_before P.products P.line x.line w)
      (mounted_below_lem P S R.line w (λ v k. g.formed v (omega arith)))
      (mounted_before_lem P S x.line P.weeks g.formed plan_agree w (omega arith))

  plan_meets : (w : ℕ) → w < P.weeks → Meets P.products (week_of x.line w)
  plan_meets w l = order_meets P.products (week_of x.line w) (order_of_slots (S.line.week w)) (is_order_lem w l) (plan_agree w l)

  amounts : (w : ℕ) → w < P.weeks → AmountModel P x w
  amounts w l = amounts_same P x (run_tables P S) tables w l (run_amounts P R S w (g.formed w l) (continued.0 w l))

  times : (w : ℕ) → w < P.weeks → Times P x w
  times w l =
      plan_times_same P x (run_tables P S) tables w l (run_times P R S w (g.formed w l) (continued.0 w l) (λ u k. g.formed u (omega arith)))

  pub given_profit : x.profit ≡ s.profit.0
  unfolding run_tables
  given_profit = g.same.profit ∙ ap (λ (z : State). z.profit.0) continued.1

  pub given_rules : RulesHold P x
  unfolding run_tables
  given_rules =
      rules_hold P x plan_meets (λ w l. passages_same tables.line P.line w l (run_passages P R S P.weeks g.formed w l)) times amounts
      (g.same.profit ∙ (after_profit P S R.line P.weeks g.formed ∙ sym (profit_same P x (run_tables P S) tables P.weeks (omega arith))))

  facts : (w : ℕ) → w < P.weeks → WeekFacts P.products (week_of x.line w)
  facts w l = week_facts P.products (week_of x.line w) (plan_meets w l)

  week_changeover_bit : (w i j : ℕ) → w < P.weeks → i < P.products → j < P.products → x.line.week_changeover w i j ≤ 1
  unfolding week_of run_tables line_tables
  week_changeover_bit w i j l k m =
      let before = is_mounted (mounted_at P S w) i in
      let first = first_in (order_of_slots (S.line.week w)) j in
      omega (
        arith,
        g.same.line.week_changeover w i j l k m,
        bit_part before first (mounted_bit (mounted_at P S w) i),
        (plan_agree w l).first j m,
        first_bit (facts w l) j m,
      )

  pub given_binary : Binary P x
  unfolding week_of
  given_binary =
      record {
        assigned = λ w i l k. (facts w l).assigned_bit i k;
        first = λ w i l k. first_bit (facts w l) i k;
        last = λ w i l k. last_bit (facts w l) i k;
        changeover = λ w i j l k m. (facts w l).changeover_bit i k j m;
        week_changeover = week_changeover_bit;
      }

-- ---- slots of one order with the same minutes are the same
abbrev tail_of : List ℕ → List ℕ
tail_of [] = []
tail_of (p ∷ ps) = ps

pub same_slots : (N : ℕ) (xs ys : List Slot) → order_of_slots xs ≡ order_of_slots ys → ProductsBelow N (order_of_slots xs)
    → ((i : ℕ) → i < N → assigned_in (order_of_slots xs) i ≤ 1) → ((i : ℕ) → i < N → minutes_of xs i ≡ minutes_of ys i) → xs ≡ ys
same_slots N [] [] e k once t = refl
same_slots N [] (y ∷ ys) e k once t = absurd (let z : ◌≡◌ {A = ℕ} 0 1 = cc in omega arith)
same_slots N (x ∷ xs) [] e k once t = absurd (let z : ◌≡◌ {A = ℕ} 0 1 = cc in omega arith)
same_slots N (x ∷ xs) (y ∷ ys) e k once t =
    let p : x.product ≡ y.product = cc in
    let r : order_of_slots xs ≡ order_of_slots ys = ap tail_of e in
    let l : x.product < N = k 0 (omega arith) in
    let one = is_same x.product x.product refl in
    let none : assigned_in (order_of_slots xs) x.product ≡ 0 = omega (arith, once x.product l) in
    let tx : minutes_of xs x.product ≡ 0 = no_minutes xs x.product none in
    let ty : minutes_of ys x.product ≡ 0 = no_minutes ys x.product (sym (ap (λ (ps : List ℕ). assigned_in ps x.product) r) ∙ none) in
    let step : (i : ℕ) → i < N → is x.product i * x.minutes + minutes_of xs i ≡ is x.product i * y.minutes + minutes_of ys i =
    λ i j. t i j ∙ ap (λ (q : ℕ). is q i * y.minutes + minutes_of ys i) (sym p) in
    let m : x.minutes ≡ y.minutes = omega (arith, rw (one, tx, ty) at (step x.product l)) in
    let rest : xs ≡ ys = same_slots N xs ys r (λ u v. k (suc u) (omega arith)) (λ i j. omega (arith, once i j))
    (λ i j. elim (ℕ_discrete x.product i) [
      | yes q ↦ sym (ap (minutes_of xs) q) ∙ (tx ∙ (sym ty ∙ ap (minutes_of ys) q))
      | no q ↦ (let z = is_other x.product i q in omega (arith, rw z at (step i j)))
    ]) in
    λ u. record { product = p u; minutes = m u } ∷ rest u
