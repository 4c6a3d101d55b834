-- Each step keeps the bounds of `Sane`. Assumes nothing.
use Prim.Native.Nat.{ℕ, suc, ◌+◌, ◌*◌, ◌-◌, ◌/◌, ◌%◌, ◌^◌, ◌≤◌, ◌<◌}
use mathlib.Core.Path.{◌≡◌, refl, sym, ap, ◌∙◌}
use mathlib.Core.Logic.{◌≢◌}
use mathlib.Core.Bool.{true}
use mathlib.Core.List.{List, [], ◌∷◌}
use native.Mathlib.Omega.{arith}
use native.Mathlib.Decide.{ℕ_discrete}
use native.Mathlib.Nat.{mul-le-mul, le_trans, add-zero}
use lib.ListN.{length, get_or, set, replicate, length-set}
use lib.Seq.{get_or-set_same, get_or-set_other}
use lib.IntN.{pos, ◌+ℤ◌, ◌-ℤ◌}
use lib.Signed.{mag}
use Rattle.mathematics.specs.Below.{sum_below}
use Rattle.mathematics.proofs.Tables.{sum_few}
use Rattle.sections.specs.declared.Shape.{Shape}
use Rattle.std.specs.Prelude.{Ok}
use Rattle.plant_file.specs.Plant.{plant_of}
use Rattle.plant_file.specs.Form.{plant_form}
use Rattle.plant_file.specs.Ranges.{PlantRanges}
use Rattle.mathematics.proofs.Pairs.{pair_of}
use Rattle.sections.specs.Limits.{most_products, most_weeks, most_changeover_cents, most_demand, most_unit_cost, most_storage, most_week_minutes, most_backlog}
use Rattle.plant_file.proofs.PlantKinds.{kind_backlog}
use Rattle.plant_file.proofs.PlantInRange.{plant_ranges}
use Rattle.slot_file.specs.Slots.{Slot, no_slot, Slots, SlotsFit}
use Rattle.machine.specs.declared.State.{State}
use Rattle.machine.specs.State.{Step}
use Rattle.machine.specs.State.{inventory_of, backlog_of, has_run, with_inventory, with_backlog, with_line, with_week, with_profit, with_mounted, continues}
use Rattle.costs.specs.Changeover.{changeover_to}
use Rattle.machine.specs.Machine.{week_begin, clock_after, slot_done, slot_step, WeekInput, week_input, sold_of}
use Rattle.machine.specs.Machine.{inventory_after, backlog_after, storage_kept, booked, week_done, week_end}
use Rattle.machine.specs.Run.{opening, run_slots, run_week}
use Rattle.machine.specs.Bounds.{most_week_money, Sane, Roomy}
use Rattle.units.proofs.Signed.{mag_sub, mag_add}
use Rattle.costs.specs.Money.{revenue_of, backlog_charge_of, inventory_charge_of}
use Rattle.costs.proofs.Changeovers.{opening_below, to_most}
use Rattle.machine.proofs.Plants.{counts}
use Rattle.machine.proofs.Flat.{row_length, row_first, rows_length, rows_flat}
use Rattle.machine.proofs.PairTables.{backlog_at, charge_at, backlog_flat, charge_flat}
use Rattle.machine.proofs.Digits.{digit_unset, digit_room}
use Rattle.machine.proofs.Steps.{SlotContinues, slot_continued, week_continued, storage_at_lem}
use Rattle.machine.proofs.Runs.{then_continued, continued_step}

-- ---- bounds
pub sane_more : {f : Shape} {w k v j : ℕ} {s : State} → Sane f w k s → w ≤ v → k ≤ j → Sane f v j s
sane_more {f} {w} {k} {v} {j} {s} h l m =
    record {
      inventory_long = h.inventory_long;
      backlog_long = h.backlog_long;
      inventory_most = λ i r. omega (arith, h.inventory_most i r);
      backlog_most = λ i r. omega (arith, h.backlog_most i r);
      clock_most = h.clock_most;
      profit_most = omega (arith, h.profit_most);
      ran_most = h.ran_most;
      mounted_below_lem = h.mounted_below_lem;
    }

-- no run is wider before a step
pub sane_roomy : {f : Shape} {w k : ℕ} {s : State} → Sane f w k s → w < most_weeks → k ≤ most_products → Roomy f s
sane_roomy h l m = sane_more h (omega arith) m

pub begin_sane : {f : Shape} {w k : ℕ} {s : State} → Sane f w k s → Sane f w k (week_begin s)
unfolding week_begin with_line with_week inventory_of
begin_sane h =
    record {
      inventory_long = h.inventory_long;
      backlog_long = h.backlog_long;
      inventory_most = h.inventory_most;
      backlog_most = h.backlog_most;
      clock_most = omega arith;
      profit_most = h.profit_most;
      ran_most = omega arith;
      mounted_below_lem = h.mounted_below_lem;
    }

-- one cell stored anew
set_at_most : (l : List ℕ) (p v b i : ℕ) → p < length l → v ≤ b → (i ≢ p → get_or l i 0 ≤ b) → get_or (set l p v) i 0 ≤ b
set_at_most l p v b i r h g = elim (ℕ_discrete i p) [
  | yes e ↦ rw e (omega (arith, get_or-set_same l p v 0 r))
  | no d ↦ omega (arith, get_or-set_other l p i v 0 d, g d)
]

module _ (plant : List ℕ) (f : Shape) (good : plant_form plant ≡ Ok f) where
  ranges : PlantRanges (plant_of f plant)
  ranges = plant_ranges plant f good

  -- a slot that does not stop
  pub slot_sane : {w k : ℕ} {s : State} (x : Slot) → x.product < f.products → Sane f w k s
      → SlotContinues (plant_of f plant) (plant_of f plant).line x s → Sane f w (k + 1) (slot_done (plant_of f plant).line x s)
  unfolding clock_after slot_done inventory_of has_run with_inventory with_line with_week with_profit with_mounted
  slot_sane {w} {k} {s} x p h goes =
      let line = (plant_of f plant).line in
      let cents = to_most f.products most_changeover_cents line.changeover_cents ranges.line.cents_most s.line.mounted x.product
      h.mounted_below_lem p in
      let m : x.minutes ≤ most_week_minutes = omega (arith, ranges.week_most, goes.early) in
      let grams = mul-le-mul (ranges.line.rate_most x.product p) m in
      let room : x.product < length s.inventory = omega (arith, h.inventory_long, ranges.products_most) in
      record {
        inventory_long = length-set s.inventory _ _ ∙ h.inventory_long;
        backlog_long = h.backlog_long;
        inventory_most = λ i q.
            set_at_most s.inventory x.product _ _ i room (omega (arith, grams, h.inventory_most _ p)) (λ d. omega (arith, h.inventory_most i q));
        backlog_most = h.backlog_most;
        clock_most = omega (arith, ranges.week_most, goes.early);
        profit_most =
            omega (arith, mag_sub s.profit.0 (1000 * changeover_to line.changeover_cents s.line.mounted x.product), cents, h.profit_most);
        ran_most = digit_room x.product 16 s.line.ran (omega (arith, ranges.products_most)) h.ran_most
            (digit_unset s.line.ran x.product goes.fresh);
        mounted_below_lem = p;
      }

  module _ (v : WeekInput) where
    inventory_sane : {w k : ℕ} {s : State} → Sane f w k s → Sane f w k (inventory_after (plant_of f plant) v s)
    unfolding inventory_after with_inventory inventory_of
    inventory_sane {w} {k} {s} h =
        let g : ℕ → ℕ → ℕ = λ i before. before - sold_of (plant_of f plant) v i in
        let room : f.products ≤ length s.inventory = omega (arith, h.inventory_long, ranges.products_most) in
        record {
          inventory_long = row_length 0 f.products g s.inventory ∙ h.inventory_long;
          backlog_long = h.backlog_long;
          inventory_most = λ i q. omega (arith, row_first f.products g s.inventory room i q, h.inventory_most i q);
          backlog_most = h.backlog_most;
          clock_most = h.clock_most;
          profit_most = h.profit_most;
          ran_most = h.ran_most;
          mounted_below_lem = h.mounted_below_lem;
        }

    backlog_sane : {w k : ℕ} {s : State} → ((c i : ℕ) → c < f.customers → i < f.products → v.demand c i ≤ most_demand) → Sane f w k s
        → Sane f (w + 1) k (backlog_after (plant_of f plant) v s)
    unfolding with_backlog inventory_of
    backlog_sane {w} {k} {s} wanted h =
        let n = f.customers * f.products in
        let g = backlog_at f.products v in
        let room : n ≤ length s.backlog = omega (arith, h.backlog_long, (counts plant f good).pairs) in
        rw (backlog_flat (plant_of f plant) v s)
        (record {
          inventory_long = h.inventory_long;
          backlog_long = row_length 0 n g s.backlog ∙ h.backlog_long;
          inventory_most = h.inventory_most;
          backlog_most = λ j q.
              let p = pair_of f.customers f.products j q in
              omega (arith, row_first n g s.backlog room j q, h.backlog_most j q, wanted _ _ p.row p.column);
          clock_most = h.clock_most;
          profit_most = omega (arith, h.profit_most);
          ran_most = h.ran_most;
          mounted_below_lem = h.mounted_below_lem;
        })

    module _ (small : (c i : ℕ) → c < f.customers → i < f.products → v.sales c i < 2 ^ 32) where
      revenue_most : revenue_of (plant_of f plant) v.sales ≤ 8 * (16 * (most_unit_cost * 4294967295))
      revenue_most =
          let P = plant_of f plant in
          sum_few (16 * (most_unit_cost * 4294967295)) (λ c. sum_below f.products (λ i. P.price c i * v.sales c i)) ranges.customers_most
          (λ c p. sum_few (most_unit_cost * 4294967295) (λ i. P.price c i * v.sales c i) ranges.products_most
          (λ i q. let m : v.sales c i ≤ 4294967295 = omega (arith, small c i p q) in mul-le-mul (ranges.price_most c i p q) m))

      module _ (w : ℕ) (s : State) (l : w < f.weeks) where
        backlog_charge_most : Sane f (w + 1) 16 s → backlog_charge_of (plant_of f plant) (backlog_of f.products s) ≤ 128 * (most_unit_cost * most_backlog)
        backlog_charge_most h =
            rw (charge_flat (plant_of f plant) s)
            (sum_few (most_unit_cost * most_backlog) (charge_at f.products (plant_of f plant) s) (counts plant f good).pairs
            (λ j q.
            let p = pair_of f.customers f.products j q in
            let m : get_or s.backlog j 0 ≤ most_backlog = omega (arith, h.backlog_most j q, ranges.weeks_most) in
            mul-le-mul (ranges.backlog_cost_most _ _ p.row p.column) m))

        inventory_charge_most : ((i : ℕ) → i < f.products → inventory_of s i ≤ most_storage)
            → inventory_charge_of (plant_of f plant) (inventory_of s) ≤ 16 * (most_unit_cost * most_storage)
        inventory_charge_most kept =
            sum_few (most_unit_cost * most_storage) (λ i. (plant_of f plant).inventory_cost i * inventory_of s i) ranges.products_most
            (λ i q. mul-le-mul (ranges.inventory_cost_most i q) (kept i q))

        -- the amounts of a week, after its sales and within its storage
        booked_sane : Sane f (w + 1) 16 s → ((i : ℕ) → i < f.products → inventory_of s i ≤ most_storage)
            → mag s.profit.0 ≤ w * most_week_money + 16 * (1000 * most_changeover_cents) → Sane f (w + 1) 0 (booked (plant_of f plant) v s)
        unfolding booked with_profit inventory_of
        booked_sane h kept z =
            let gains = revenue_of (plant_of f plant) v.sales in
            let late = backlog_charge_of (plant_of f plant) (backlog_of f.products s) in
            let held = inventory_charge_of (plant_of f plant) (inventory_of s) in
            let gained = s.profit.0 +ℤ pos gains in
            let moved : mag (gained -ℤ pos late -ℤ pos held) ≤ mag s.profit.0 + gains + late + held =
            omega (arith, mag_add s.profit.0 gains, mag_sub gained late, mag_sub (gained -ℤ pos late) held) in
            record {
              inventory_long = h.inventory_long;
              backlog_long = h.backlog_long;
              inventory_most = λ i q. omega (arith, kept i q);
              backlog_most = h.backlog_most;
              clock_most = h.clock_most;
              profit_most = omega (arith, revenue_most, backlog_charge_most h, inventory_charge_most kept);
              ran_most = h.ran_most;
              mounted_below_lem = h.mounted_below_lem;
            }

      -- a week's end that does not stop
      pub week_sane : {w : ℕ} {s : State} → w < f.weeks → ((c i : ℕ) → c < f.customers → i < f.products → v.demand c i ≤ most_demand) → Sane f w 16 s
          → storage_kept (plant_of f plant) (inventory_after (plant_of f plant) v s) ≡ true → Sane f (w + 1) 0 (week_done (plant_of f plant) v s)
      unfolding week_done backlog_after inventory_after with_backlog with_inventory inventory_of
      week_sane {w} {s} l wanted h kept =
          let P = plant_of f plant in
          booked_sane w (backlog_after P v (inventory_after P v s)) l (backlog_sane wanted (inventory_sane h))
          (λ i q. le_trans (storage_at_lem P (inventory_after P v s) kept i q).1 (ranges.storage_most i q)) h.profit_most

  -- a step that continues, by what it gives back
  pub slot_kept : {w k : ℕ} {s : State} (x : Slot) (r : Step) → x.product < f.products → Sane f w k s
      → r ≡ slot_step (plant_of f plant) (plant_of f plant).line x s → r.outcome ≡ Ok tt → Sane f w (k + 1) r.state
  slot_kept x r p h e q =
      let g = slot_continued (plant_of f plant) (plant_of f plant).line x _ r.state (sym e ∙ continued_step r q) in
      rw g.0 (slot_sane x p h g.1)

  -- slots in a row
  pub slots_kept : {w : ℕ} (xs : List Slot) → ((i : ℕ) → i < length xs → (get_or xs i no_slot).product < f.products)
      → (k : ℕ) (s t : State) → Sane f w k s → run_slots (plant_of f plant) (plant_of f plant).line xs s ≡ continues t → Sane f w (k + length xs) t
  slots_kept [] known k s t h e = rw (add-zero, ← (ap (λ (r : Step). r.state) e)) h
  slots_kept (x ∷ xs) known k s t h e =
      let r = slot_step (plant_of f plant) (plant_of f plant).line x s in
      let g = then_continued r (run_slots (plant_of f plant) (plant_of f plant).line xs) t e in
      let n : k + 1 + length xs ≡ k + suc (length xs) = omega arith in
      rw (← n)
      (slots_kept xs (λ i l. known (suc i) (omega arith)) (k + 1) r.state t (slot_kept x r (known 0 (omega arith)) h refl g.0) g.1)

  -- a week, by what its slots give back, and by what it gives back
  module _ (S : Slots) (fit : SlotsFit f S) {w : ℕ} {s : State} (l : w < f.weeks) (h : Sane f w 0 s) where
    pub week_slots_kept : (t : State) → run_slots (plant_of f plant) (plant_of f plant).line (S.line.week w) (week_begin s) ≡ continues t → Sane f w 16 t
    week_slots_kept t e =
        sane_more (slots_kept (S.line.week w) (fit.formed w l).product 0 (week_begin s) t (begin_sane h) e) (omega arith)
        (omega (arith, (fit.formed w l).few, (counts plant f good).products))

    pub week_kept : (r : Step) → r ≡ run_week (plant_of f plant) (week_input (plant_of f plant) S w) s → r.outcome ≡ Ok tt → Sane f (w + 1) 0 r.state
    unfolding run_week
    week_kept r e q =
        let P = plant_of f plant in
        let v = week_input P S w in
        let ran = run_slots P P.line v.slots (week_begin s) in
        let a = then_continued ran (week_end P v) r.state (sym e ∙ continued_step r q) in
        let g = week_continued P v ran.state r.state a.1 in
        rw g.0
        (week_sane v (λ c i x y. fit.sales c i w x y l) l (λ c i x y. ranges.demand_most c i w x y l)
        (week_slots_kept ran.state (continued_step ran a.0)) g.3)

  pub opening_sane : Sane f 0 0 (opening (plant_of f plant))
  unfolding opening inventory_of
  opening_sane =
      let P = plant_of f plant in
      let n = f.customers * f.products in
      let row : ℕ → ℕ → ℕ = λ i _. P.opening_inventory i in
      let table : ℕ → ℕ → ℕ → ℕ = λ c i _. P.opening_backlog c i in
      let cells : ℕ → ℕ → ℕ = λ k. table (k / f.products) (k % f.products) in
      record {
        inventory_long = row_length 0 f.products row (replicate 16 0);
        backlog_long = rows_length f.customers f.products table (replicate 128 0);
        inventory_most = λ i q.
            omega (arith, row_first f.products row (replicate 16 0) ranges.products_most i q, ranges.opening_inventory_most i q);
        backlog_most = λ j q.
            let p = pair_of f.customers f.products j q in
            rw (rows_flat f.customers f.products table (replicate 128 0))
            (omega (
              arith,
              row_first n cells (replicate 128 0) (counts plant f good).pairs j q,
              ranges.opening_backlog_most _ _ p.row p.column,
              kind_backlog f.kind,
            ));
        clock_most = omega arith;
        profit_most = omega arith;
        ran_most = omega arith;
        mounted_below_lem = opening_below f.products P.line ranges.line;
      }
