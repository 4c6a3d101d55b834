-- A run depends only on the slots of its weeks and on the sales of its customers, products and weeks. Assumes nothing.
use Prim.Native.Nat.{ℕ, zero, suc, ◌+◌, ◌*◌, ◌-◌, ◌≤◌, ◌<◌}
use mathlib.Core.Path.{◌≡◌, refl, ap, ◌∙◌}
use mathlib.Core.List.{List}
use native.Mathlib.Omega.{arith}
use lib.Dec.{leb}
use lib.IntN.{pos, ◌+ℤ◌, ◌-ℤ◌}
use Rattle.mathematics.specs.Order.{assigned_in, first_in, last_in, changeover_in, position_in}
use Rattle.mathematics.proofs.Below.{sum_ext}
use Rattle.mathematics.proofs.Tables.{all_ext}
use Rattle.plant_file.specs.Plant.{Plant, shape_of_plant}
use Rattle.plan_file.specs.Plan.{Same2, SamePlan}
use Rattle.slot_file.specs.Slots.{Slot, order_of_slots, Slots, SameSlots}
use Rattle.costs.specs.Mounted.{is_mounted}
use Rattle.costs.specs.Money.{backlog_charge_of, inventory_charge_of}
use Rattle.machine.specs.declared.State.{State}
use Rattle.machine.specs.State.{backlog_of, inventory_of, with_inventory, with_backlog, with_profit, update_row, update_rows, first_met, stepped, and_then}
use Rattle.machine.specs.Machine.{week_begin, WeekInput, week_input, sold_of, sales_due, backlog_after, sales_in_stock, inventory_after, storage_kept}
use Rattle.machine.specs.Machine.{booked, week_done, week_stops, week_end}
use Rattle.machine.specs.Run.{run_slots, run_week, run_weeks, run, ran_week, slots_done, after, opening}
use Rattle.machine.proofs.Flat.{row_ext}
use Rattle.model.specs.RunTables.{minutes_of, line_tables, run_tables}
use Rattle.model.proofs.Grids.{grid_ext}

pub rows_ext : (m n : ℕ) (f g : ℕ → ℕ → ℕ → ℕ) (l : List ℕ) → ((c i v : ℕ) → c < m → i < n → f c i v ≡ g c i v)
    → update_rows m n f l ≡ update_rows m n g l
rows_ext zero n f g l h = refl
rows_ext (suc m) n f g l h =
    ap (update_row (m * n) n (f m)) (rows_ext m n f g l (λ c i v k j. h c i v (omega arith) j))
    ∙ row_ext (m * n) n (f m) (g m) (update_rows m n g l) (λ i v k. h m i v (omega arith) k)

-- ---- a week whose demand and sales are the same for the plant's customers and products
module _ (P : Plant) (a b : WeekInput) (demand_same : Same2 P.customers P.products a.demand b.demand)
    (sales_same : Same2 P.customers P.products a.sales b.sales) where
  sold_same : (i : ℕ) → i < P.products → sold_of P a i ≡ sold_of P b i
  sold_same i k = sum_ext P.customers _ _ (λ c j. sales_same c i j k)

  inventory_same : (s : State) → inventory_after P a s ≡ inventory_after P b s
  unfolding inventory_after
  inventory_same s = ap (with_inventory s) (row_ext 0 P.products _ _ s.inventory (λ i v k. ap (λ (x : ℕ). v - x) (sold_same i k)))

  pub backlog_same : (s : State) → backlog_after P a s ≡ backlog_after P b s
  unfolding backlog_after
  backlog_same s =
      ap (with_backlog s)
      (rows_ext P.customers P.products _ _ s.backlog (λ c i v j k. λ u. v + demand_same c i j k u - sales_same c i j k u))

  booked_same : (s : State) → booked P a s ≡ booked P b s
  unfolding booked
  booked_same s =
      let backlog = backlog_charge_of P (backlog_of P.products s) in
      let inventory = inventory_charge_of P (inventory_of s) in
      ap (λ (n : ℕ). with_profit s (s.profit.0 +ℤ pos n -ℤ pos backlog -ℤ pos inventory))
      (grid_ext P.customers P.products _ _ (λ c i j k. ap (λ (x : ℕ). P.price c i * x) (sales_same c i j k)))

  done_same : (s : State) → week_done P a s ≡ week_done P b s
  unfolding week_done
  done_same s =
      booked_same (backlog_after P a (inventory_after P a s))
      ∙ ap (booked P b) (backlog_same (inventory_after P a s) ∙ ap (backlog_after P b) (inventory_same s))

  pub due_same : (s : State) → sales_due P a s ≡ sales_due P b s
  unfolding sales_due
  due_same s =
      all_ext P.customers _ _ (λ c j. all_ext P.products _ _ (λ i k. λ u.
      leb (sales_same c i j k u) (backlog_of P.products s c i + demand_same c i j k u)))

  stocked_same : (s : State) → sales_in_stock P a s ≡ sales_in_stock P b s
  unfolding sales_in_stock
  stocked_same s = all_ext P.products _ _ (λ i k. ap (λ (x : ℕ). leb x (inventory_of s i)) (sold_same i k))

  end_same : (s : State) → week_end P a s ≡ week_end P b s
  unfolding week_end
  end_same s =
      λ u. stepped (first_met (week_stops (due_same s u) (stocked_same s u) (storage_kept P (inventory_same s u)))) s (done_same s u)

-- ---- the run, and its tables
module _ (P : Plant) (S T : Slots) (same : SameSlots (shape_of_plant P) S T) where
  module _ (w : ℕ) (l : w < P.weeks) where
    week_done_lem : (s : State) → week_done P (week_input P S w) s ≡ week_done P (week_input P T w) s
    week_done_lem = done_same P (week_input P S w) (week_input P T w) (λ c i j k. refl) (λ c i j k. same.sales c i w j k l)

    week_end_lem : (s : State) → week_end P (week_input P S w) s ≡ week_end P (week_input P T w) s
    week_end_lem = end_same P (week_input P S w) (week_input P T w) (λ c i j k. refl) (λ c i j k. same.sales c i w j k l)

    week_same : (s : State) → run_week P (week_input P S w) s ≡ run_week P (week_input P T w) s
    unfolding run_week
    week_same s = λ u. and_then (run_slots P P.line (same.week w l u) (week_begin s)) (λ t. week_end_lem t u)

  weeks_same : (left w : ℕ) → w + left ≤ P.weeks → (s : State) → run_weeks P (week_input P S) left w s ≡ run_weeks P (week_input P T) left w s
  weeks_same zero w h s = refl
  weeks_same (suc left) w h s = λ u. and_then (week_same w (omega arith) s u) (λ t. weeks_same left (w + 1) (omega arith) t u)

  pub run_same : run P S ≡ run P T
  unfolding run
  run_same = weeks_same P.weeks 0 (omega arith) (opening P)

  after_same : (w : ℕ) → w ≤ P.weeks → after P S w ≡ after P T w
  unfolding ran_week
  after_same zero h = refl
  after_same (suc w) h =
      let e = after_same w (omega arith) in
      week_done_lem w h (ran_week P (week_input P S w) (after P S w))
      ∙ (λ u. week_done P (week_input P T w) (slots_done P.line (same.week w h u) (week_begin (e u))))

  pub tables_same : SamePlan (shape_of_plant P) (run_tables P S) (run_tables P T)
  unfolding run_tables line_tables
  tables_same =
      record {
        line =
            record {
              assigned = λ w i l k. ap (λ (xs : List Slot). assigned_in (order_of_slots xs) i) (same.week w l);
              first = λ w i l k. ap (λ (xs : List Slot). first_in (order_of_slots xs) i) (same.week w l);
              last = λ w i l k. ap (λ (xs : List Slot). last_in (order_of_slots xs) i) (same.week w l);
              changeover = λ w i j l k m. ap (λ (xs : List Slot). changeover_in (order_of_slots xs) i j) (same.week w l);
              week_changeover = λ w i j l k m. λ u.
                  is_mounted (after_same w (omega arith) u).line.mounted i * first_in (order_of_slots (same.week w l u)) j;
              position = λ w i l k. ap (λ (xs : List Slot). position_in (order_of_slots xs) i) (same.week w l);
              minutes = λ w i l k. ap (λ (xs : List Slot). minutes_of xs i) (same.week w l);
            };
        production = λ w i l k. ap (λ (xs : List Slot). P.line.rate i * minutes_of xs i) (same.week w l);
        sales = same.sales;
        inventory = λ w i l k. ap (λ (s : State). inventory_of s i) (after_same (suc w) l);
        backlog = λ c i w j k l. ap (λ (s : State). backlog_of P.products s c i) (after_same (suc w) l);
        profit = ap (λ (s : State). s.profit.0) (after_same P.weeks (omega arith));
      }
