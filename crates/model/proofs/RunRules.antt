-- The tables of a run without a stop: each week is an order, and rules 33 and 35 to 40 hold. Assumes nothing.
use Prim.Native.Nat.{ℕ, ◌+◌, ◌*◌, ◌<◌, ◌≤◌}
use mathlib.Core.Path.{◌≡◌, refl, sym, ap}
use mathlib.Core.Bool.{true}
use mathlib.Core.List.{List}
use native.Mathlib.Omega.{arith}
use native.Mathlib.Decide.{ℕ_discrete}
use Rattle.mathematics.specs.Order.{is_order, assigned_in, first_in}
use Rattle.mathematics.proofs.OrderTables.{an_order}
use Rattle.mathematics.proofs.OrderTheorem.{agree_refl}
use Rattle.plant_file.specs.Plant.{Plant}
use Rattle.plant_file.specs.Ranges.{PlantRanges}
use Rattle.slot_file.specs.Slots.{Slot, order_of_slots, WeekFormed, Slots}
use Rattle.slot_file.proofs.Orders.{order_below}
use Rattle.machine.specs.Run.{ran_week}
use Rattle.rules.specs.Rules.{week_of, mounted_before, rule33}
use Rattle.costs.specs.Mounted.{is_mounted}
use Rattle.model.specs.RunTables.{minutes_of, line_tables, mounted_at, run_tables}
use Rattle.model.specs.Model.{AmountModel}
use Rattle.model.proofs.Grids.{columns_sum, rows_sum}
use Rattle.model.proofs.Changeovers.{total_minutes, total_changeover, no_minutes, minutes_part, sum_minutes}
use Rattle.model.proofs.RunStates.{FormedTo, mounted_before_lem, changeover_total, ran_clock}
use Rattle.model.proofs.RunStates.{backlog_before_lem, inventory_before_lem, ran_backlog, ran_inventory, after_backlog, after_inventory}
use Rattle.model.proofs.Stops.{WeekContinues}
use Rattle.model.proofs.RuleFacts.{under_minutes, facts_passage, Times}

module _ (P : Plant) (R : PlantRanges P) (S : Slots) where
  -- ---- one week
  module _ (w : ℕ) (f : WeekFormed P.products (S.line.week w)) (h : WeekContinues P S w) where
    abbrev xs : List Slot
    xs = S.line.week w

    pub run_once : (i : ℕ) → i < P.products → assigned_in (order_of_slots xs) i ≤ 1
    run_once i l = omega (arith, h.slots.once i l)

    pub run_order : is_order P.products (order_of_slots xs) ≡ true
    run_order = an_order P.products (order_of_slots xs) (order_below P.products xs f) run_once

    pub clock : total_minutes xs + total_changeover P.line.changeover_minutes (mounted_at P S w) (order_of_slots xs) ≤ P.week_minutes
    unfolding ran_week
    clock = omega (arith, ran_clock P S w, h.slots.early)

    longest : (i : ℕ) → i < P.products → minutes_of xs i ≤ P.week_minutes * assigned_in (order_of_slots xs) i
    longest i l = elim (ℕ_discrete (assigned_in (order_of_slots xs) i) 0) [
      | yes e ↦ omega (arith, no_minutes xs i e)
      | no d ↦
          (let e : assigned_in (order_of_slots xs) i ≡ 1 = omega (arith, run_once i l) in
          rw e (omega (arith, minutes_part xs i, clock)))
    ]

    pub run_times : FormedTo P S w → Times P (run_tables P S) w
    unfolding run_tables line_tables
    run_times g =
        let x = (run_tables P S).line in
        record {
          shortest_run = h.slots.long;
          longest_run = longest;
          time = omega (
            arith,
            clock,
            under_minutes P.products P.line x w P.line.changeover_minutes,
            sum_minutes P.products xs (order_below P.products xs f),
            changeover_total P S R.line P.line.changeover_minutes w g f,
          );
        }

    pub run_amounts : AmountModel P (run_tables P S) w
    unfolding run_tables line_tables
    run_amounts =
        record {
          produced = λ i k. refl;
          backlogs = λ c i j k. omega (arith, h.ends.due c i j k, ran_backlog P S R w c i, backlog_before_lem P S R w c i j k, after_backlog P S R w c i j k);
          inventories = λ i k. omega (
            arith,
            h.ends.stocked i k,
            ran_inventory P S R w f i,
            inventory_before_lem P S R w i k,
            after_inventory P S R w f i k,
          );
          storage_least = h.ends.least;
          storage_most = h.ends.most;
        }

  -- ---- 33
  module _ (n : ℕ) (f : FormedTo P S n) where
    pub run_passages : (w : ℕ) → w < n → rule33 P.products P.line (run_tables P S).line w ≡ true
    unfolding run_tables line_tables week_of
    run_passages w l =
        let x = line_tables (mounted_at P S) S.line in
        let first = first_in (order_of_slots (S.line.week w)) in
        let before = mounted_before P.products P.line x w in
        let cells : (i j : ℕ) → i < P.products → j < P.products → is_mounted (mounted_at P S w) i * first j ≡ before i * first j =
        λ i j k m. ap (λ (u : ℕ). u * first j) (sym (mounted_before_lem P S x n f (λ v a. agree_refl P.products (week_of x v)) w (omega arith) i k)) in
        facts_passage P.products P.line x w (record {
          into_first = columns_sum P.products first before (x.week_changeover w) cells;
          out_of_mounted = rows_sum P.products first before (x.week_changeover w) cells;
        })
