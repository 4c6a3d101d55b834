-- A plan that passes: the slots that it shows run without a stop, and the run's tables are the plan's. Assumes nothing.
use Prim.Native.Nat.{ℕ, zero, suc, ◌*◌, ◌<◌, ◌≤◌}
use mathlib.Core.Path.{◌≡◌, refl, sym, ap, ◌∙◌}
use mathlib.Core.List.{List, [], ◌∷◌}
use native.Mathlib.Omega.{arith}
use native.Mathlib.Decide.{ℕ_discrete}
use lib.ListN.{length}
use Rattle.mathematics.specs.Below.{sum_below}
use Rattle.mathematics.specs.Week.{Meets}
use Rattle.mathematics.specs.Order.{order_of, order_tables, Agree, assigned_in, first_in}
use Rattle.mathematics.proofs.Below.{sum_ext, sum_mono, sum_const}
use Rattle.mathematics.proofs.WeekRules.{WeekFacts, week_facts, at_binary}
use Rattle.mathematics.proofs.OrderTables.{OrderFacts, order_facts}
use Rattle.mathematics.proofs.OrderTheorem as theorem
use Rattle.mathematics.proofs.OrderTheorem.{shown_order, shown_tables}
use Rattle.plant_file.specs.Plant.{Plant}
use Rattle.plant_file.specs.Ranges.{LineRanges, PlantRanges}
use Rattle.plan_file.specs.Plan.{Plan}
use Rattle.slot_file.specs.Slots.{order_of_slots, WeekFormed, Slots}
use Rattle.slot_file.proofs.Orders.{order_length, order_at_lem, order_below}
use Rattle.machine.specs.State.{inventory_of, backlog_of}
use Rattle.machine.specs.Machine.{week_begin, week_input}
use Rattle.machine.specs.Run.{ran_week, after}
use Rattle.rules.specs.Rules.{week_of, mounted_before, backlog_before, inventory_before}
use Rattle.costs.specs.Mounted.{is_mounted}
use Rattle.model.specs.RunTables.{minutes_of, line_tables, mounted_at, run_tables}
use Rattle.model.specs.Model.{Binary, AmountModel}
use Rattle.model.specs.Match.{Gives, slots_for, line_shown, slots_shown}
use Rattle.model.proofs.States.{mark, begin_ran, opening_inventory, opening_backlog}
use Rattle.model.proofs.Changeovers.{mounted_one, is_move, sum_minutes}
use Rattle.model.proofs.Grids.{crossed}
use Rattle.model.proofs.RunStates.{ran, mounted_below_lem, mounted_before_lem, changeover_total, ran_clock, after_profit}
use Rattle.model.proofs.RunStates.{ran_backlog, ran_inventory, after_backlog, after_inventory}
use Rattle.model.proofs.Stops.{SlotsContinue, EndContinues, run_continues}
use Rattle.model.proofs.RuleFacts.{RulesHold, under_minutes, Times, rules_times, amounts_of, passage_facts, profit_of_lem}
use Rattle.model.proofs.SamePlans.{SameTables, changeovers_same, profit_same}

-- ---- the slots of an order
order_for : (minutes : ℕ → ℕ) (ps : List ℕ) → order_of_slots (slots_for minutes ps) ≡ ps
order_for minutes [] = refl
order_for minutes (p ∷ ps) = ap (λ (l : List ℕ). p ∷ l) (order_for minutes ps)

minutes_for : (minutes : ℕ → ℕ) (ps : List ℕ) (i : ℕ) → minutes_of (slots_for minutes ps) i ≡ assigned_in ps i * minutes i
minutes_for minutes [] i = omega arith
minutes_for minutes (p ∷ ps) i = omega (arith, minutes_for minutes ps i, is_move minutes p i)

module _ (P : Plant) (x : Plan) (b : Binary P x) (r : RulesHold P x) where
  -- the slots that the plan shows
  abbrev S : Slots
  S = slots_shown P.products x

  -- ---- one week: the order theorem
  module _ (w : ℕ) (l : w < P.weeks) where
    pub plan_meets : Meets P.products (week_of x.line w)
    unfolding week_of
    plan_meets =
        record {
          is_binary = at_binary P.products (week_of x.line w)
              (λ i k. (b.assigned w i l k, b.first w i l k, b.last w i l k, λ j m. b.changeover w i j l k m));
          meets31 = r.r31 w l;
          meets32 = r.r32 w l;
          meets34 = r.r34 w l;
        }

    pub plan_facts : WeekFacts P.products (week_of x.line w)
    plan_facts = week_facts P.products (week_of x.line w) plan_meets

    -- the order of the slots shown
    order_is : order_of_slots (S.line.week w) ≡ order_of P.products (week_of x.line w)
    unfolding slots_shown line_shown
    order_is = order_for (x.line.minutes w) (order_of P.products (week_of x.line w))

    shown : OrderFacts P.products (order_of_slots (S.line.week w))
    shown =
        rw order_is (order_facts P.products (order_of P.products (week_of x.line w)) (shown_order P.products (week_of x.line w) plan_meets))

    plan_agree : Agree P.products (week_of x.line w) (order_tables (order_of_slots (S.line.week w)))
    plan_agree = rw order_is (shown_tables P.products (week_of x.line w) plan_meets)

    amounts : AmountModel P x w
    amounts = amounts_of P x r w l

    times : Times P x w
    times = rules_times P x r w l

    -- no minutes where a product is not assigned
    minutes_assigned : (i : ℕ) → i < P.products → x.line.minutes w i ≡ x.line.assigned w i * x.line.minutes w i
    minutes_assigned i k = elim (ℕ_discrete (x.line.assigned w i) 0) [
      | yes e ↦ rw e (omega (arith, rw e at (times.longest_run i k)))
      | no d ↦ (let e : x.line.assigned w i ≡ 1 = omega (arith, b.assigned w i l k) in rw e (omega arith))
    ]

    minutes_same : (i : ℕ) → i < P.products → x.line.minutes w i ≡ minutes_of (S.line.week w) i
    unfolding slots_shown line_shown week_of
    minutes_same i k =
        minutes_assigned i k
        ∙ (ap (λ (u : ℕ). u * x.line.minutes w i) (plan_agree.assigned i k ∙ ap (λ (ps : List ℕ). assigned_in ps i) order_is)
        ∙ sym (minutes_for (x.line.minutes w) (order_of P.products (week_of x.line w)) i))

    formed : WeekFormed P.products (S.line.week w)
    unfolding week_of
    formed =
        let n = order_length (S.line.week w) in
        let m = ap length order_is in
        record {
          few = omega (
            arith,
            theorem.order_length P.products (week_of x.line w),
            sum_mono P.products (x.line.assigned w) (λ i. 1) plan_facts.assigned_bit,
            sum_const P.products 1,
          );
          product = λ k h. rw (← (order_at_lem (S.line.week w) k)) (shown.below k (omega arith));
        }

  -- ---- 33
  between_same : LineRanges P.products P.line → (w : ℕ) → w < P.weeks → (i j : ℕ) → i < P.products → j < P.products
      → x.line.week_changeover w i j
      ≡ is_mounted (mounted_at P S w) i * first_in (order_of_slots (S.line.week w)) j
  unfolding week_of
  between_same R w l i j k m =
      let h = passage_facts P.products P.line x.line w (r.r33 w l) in
      let before : (i : ℕ) → i < P.products → mounted_before P.products P.line x.line w i ≡ is_mounted (mounted_at P S w) i =
      mounted_before_lem P S x.line P.weeks formed plan_agree w (omega arith) in
      let one : sum_below P.products (mounted_before P.products P.line x.line w) ≤ 1 =
      omega (
        arith,
        sum_ext P.products (mounted_before P.products P.line x.line w) (is_mounted (mounted_at P S w)) before,
        mounted_one P.products (mounted_at P S w) (mounted_below_lem P S R w (λ u a. formed u (omega arith))),
      ) in
      crossed P.products (x.line.first w) (mounted_before P.products P.line x.line w) (x.line.week_changeover w)
      (plan_facts w l).one_first one h.into_first h.out_of_mounted i j k m
      ∙ (λ u. before i k u * (plan_agree w l).first j m u)

  module _ (R : PlantRanges P) where
    -- ---- the states by the plan's tables
    backlog_is : (n : ℕ) → n ≤ P.weeks → (c i : ℕ) → c < P.customers → i < P.products
        → backlog_of P.products (after P S n) c i ≡ backlog_before P x n c i
    unfolding backlog_before slots_shown
    backlog_is zero l c i j k = opening_backlog P R c i j k
    backlog_is (suc n) l c i j k =
        omega (
          arith,
          (amounts n (omega arith)).backlogs c i j k,
          after_backlog P S R n c i j k,
          backlog_is n (omega arith) c i j k,
        )

    inventory_is : (n : ℕ) → n ≤ P.weeks → (i : ℕ) → i < P.products → inventory_of (after P S n) i ≡ inventory_before P x n i
    unfolding inventory_before slots_shown
    inventory_is zero l i k = opening_inventory P R i k
    inventory_is (suc n) l i k =
        let m = amounts n (omega arith) in
        omega (
          arith,
          m.inventories i k,
          m.produced i k,
          after_inventory P S R n (formed n (omega arith)) i k,
          inventory_is n (omega arith) i k,
          ap (λ (u : ℕ). P.line.rate i * u) (minutes_same n (omega arith) i k),
        )

    -- ---- the run's tables are the plan's
    tables : SameTables P x (run_tables P S)
    unfolding run_tables line_tables inventory_before backlog_before slots_shown week_of
    tables =
        record {
          line = record {
            assigned = λ w i l k. (plan_agree w l).assigned i k;
            first = λ w i l k. (plan_agree w l).first i k;
            last = λ w i l k. (plan_agree w l).last i k;
            changeover = λ w i j l k m. (plan_agree w l).changeover i k j m;
            week_changeover = λ w i j l k m. between_same R.line w l i j k m;
            position = λ w i l k. (plan_agree w l).position i k;
            minutes = λ w i l k. minutes_same w l i k;
          };
          production = λ w i l k. (amounts w l).produced i k ∙ ap (λ (u : ℕ). P.line.rate i * u) (minutes_same w l i k);
          sales = λ c i w j k l. refl;
          inventory = λ w i l k. sym (inventory_is (suc w) l i k);
          backlog = λ c i w j k l. sym (backlog_is (suc w) l c i j k);
        }

    profit : x.profit ≡ (after P S P.weeks).profit.0
    profit =
        profit_of_lem P x r
        ∙ (profit_same P x (run_tables P S) tables P.weeks (omega arith)
        ∙ sym (after_profit P S R.line P.weeks (λ w l. formed w l)))

    -- ---- the run has no stop
    slots_continue : (w : ℕ) → w < P.weeks → SlotsContinue P (S.line.week w) (week_begin (after P S w))
    unfolding ran_week run_tables week_of
    slots_continue w l =
        let t = times w l in
        let f = formed w l in
        record {
          once = λ i k. omega (arith, b.assigned w i l k, (plan_agree w l).assigned i k, ap mark (begin_ran P R (after P S w) i k));
          long = λ i k. rw (sym ((plan_agree w l).assigned i k), sym (minutes_same w l i k)) (t.shortest_run i k);
          early = omega (
            arith,
            t.time,
            under_minutes P.products P.line x.line w P.line.changeover_minutes,
            ran_clock P S w,
            sum_minutes P.products (S.line.week w) (order_below P.products (S.line.week w) f),
            sum_ext P.products (x.line.minutes w) (minutes_of (S.line.week w)) (minutes_same w l),
            changeovers_same tables.line w l P.line.changeover_minutes,
            changeover_total P S R.line P.line.changeover_minutes w (λ u k. formed u (omega arith)) f,
          );
        }

    end_continues : (w : ℕ) → w < P.weeks → EndContinues P (week_input P S w) (ran P S w)
    unfolding slots_shown inventory_before
    end_continues w l =
        let n = amounts w l in
        record {
          due = λ c i j k. omega (arith, n.backlogs c i j k, ran_backlog P S R w c i, backlog_is w (omega arith) c i j k);
          stocked = λ i k. omega (
            arith,
            n.inventories i k,
            n.produced i k,
            ran_inventory P S R w (formed w l) i,
            inventory_is w (omega arith) i k,
            ap (λ (u : ℕ). P.line.rate i * u) (minutes_same w l i k),
          );
          least = λ i k. omega (arith, n.storage_least i k, inventory_is (suc w) l i k);
          most = λ i k. omega (arith, n.storage_most i k, inventory_is (suc w) l i k);
        }

    pub shown_gives : Gives P S (after P S P.weeks) x
    unfolding run_tables
    shown_gives =
        record {
          formed = λ w l. formed w l;
          runs = run_continues P R S (λ w l. formed w l) (λ w l. record { slots = slots_continue w l; ends = end_continues w l });
          same = record {
            line = tables.line;
            production = tables.production;
            sales = tables.sales;
            inventory = tables.inventory;
            backlog = tables.backlog;
            profit = profit;
          };
        }
