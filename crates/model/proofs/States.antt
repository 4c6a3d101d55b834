-- The machine's state, part by part, before and after each step: its arrays keep their lengths, and each cell changes as the paper says.
-- Assumes nothing.
use Prim.Native.Nat.{ℕ, ◌+◌, ◌*◌, ◌-◌, ◌/◌, ◌^◌, ◌<◌, ◌≤◌}
use mathlib.Core.Path.{◌≡◌, refl, sym, ap, ◌∙◌}
use mathlib.Core.Bool.{Bool, true, false}
use native.Mathlib.Omega.{arith}
use native.Mathlib.Decide.{ℕ_discrete}
use native.Mathlib.Nat.{mul-le-mul}
use lib.Dec.{eqb}
use lib.ListN.{length, length-set, replicate}
use borrow.Author.Tests.{eq-eqb, ne_eqb}
use lib.Seq.{get_or-set_same, get_or-set_other}
use lib.IntN.{pos, ◌+ℤ◌, ◌-ℤ◌}
use Rattle.mathematics.specs.Below.{is}
use Rattle.mathematics.proofs.Below.{is_same, is_other}
use Rattle.plant_file.specs.Plant.{LinePlant, Plant}
use Rattle.plant_file.specs.Ranges.{PlantRanges}
use Rattle.slot_file.specs.Slots.{Slot}
use Rattle.costs.specs.Money.{revenue_of, backlog_charge_of, inventory_charge_of}
use Rattle.machine.specs.declared.State.{State}
use Rattle.machine.specs.State.{inventory_of, backlog_of, has_run, with_inventory, with_backlog, with_line, with_week, with_profit, with_mounted}
use Rattle.machine.specs.Machine.{week_begin, clock_after, slot_done, WeekInput, sold_of, inventory_after, backlog_after, booked, week_done}
use Rattle.machine.specs.Run.{opening}
use Rattle.machine.proofs.Digits.{digit, digit_set, digit_two, digit_unset, digit_zero}
use Rattle.machine.proofs.Flat.{row_length, row_first, rows_length, rows_at}

-- the lengths of the struct's arrays
pub record Lengths (s : State) : Type 0 where
  pub inventory : length s.inventory ≡ 16
  pub backlog : length s.backlog ≡ 128

-- 1 for true, 0 for false
abbrev pub mark : Bool → ℕ
mark true = 1
mark false = 0

mark_digit : (i m : ℕ) → mark (eqb (digit i m) 1) ≡ digit i m
mark_digit i m =
    elim (ℕ_discrete (digit i m) 1) [
      | yes e ↦ ap mark (eq-eqb (digit i m) 1 e) ∙ sym e
      | no d ↦ ap mark (ne_eqb (digit i m) 1 d) ∙ sym (digit_two (m / 2 ^ i) d)
    ]

-- ---- the lengths are kept
pub opening_lengths : (P : Plant) → Lengths (opening P)
unfolding opening
opening_lengths P =
    record {
      inventory = row_length 0 P.products (λ i _. P.opening_inventory i) (replicate 16 0);
      backlog = rows_length P.customers P.products (λ c i _. P.opening_backlog c i) (replicate 128 0);
    }

pub begin_lengths : {s : State} → Lengths s → Lengths (week_begin s)
unfolding week_begin with_line with_week
begin_lengths h = record { inventory = h.inventory; backlog = h.backlog }

pub slot_lengths_lem : (l : LinePlant) (x : Slot) {s : State} → Lengths s → Lengths (slot_done l x s)
unfolding slot_done with_inventory with_line with_week with_profit with_mounted
slot_lengths_lem l x {s} h =
    record {
      inventory = simp length-set h.inventory;
      backlog = h.backlog;
    }

pub week_lengths : (P : Plant) (v : WeekInput) {s : State} → Lengths s → Lengths (week_done P v s)
unfolding week_done booked backlog_after inventory_after with_inventory with_backlog with_profit
week_lengths P v {s} h =
    record {
      inventory = row_length 0 P.products (λ i stock. stock - sold_of P v i) s.inventory ∙ h.inventory;
      backlog = rows_length P.customers P.products (λ c i owed. owed + v.demand c i - v.sales c i) s.backlog ∙ h.backlog;
    }

-- ---- the cells
module _ (P : Plant) (R : PlantRanges P) where
  table_fits : P.customers * P.products ≤ 128
  table_fits = mul-le-mul R.customers_most R.products_most

  pub opening_inventory : (i : ℕ) → i < P.products → inventory_of (opening P) i ≡ P.opening_inventory i
  unfolding opening inventory_of
  opening_inventory i l = row_first P.products (λ i _. P.opening_inventory i) (replicate 16 0) R.products_most i l

  pub opening_backlog : (c i : ℕ) → c < P.customers → i < P.products → backlog_of P.products (opening P) c i ≡ P.opening_backlog c i
  unfolding opening backlog_of
  opening_backlog c i k l =
      rows_at P.customers P.products (λ c i _. P.opening_backlog c i) (replicate 128 0) table_fits c i k l

  pub begin_ran : (s : State) (i : ℕ) → i < P.products → has_run (week_begin s) i ≡ false
  unfolding week_begin with_line with_week has_run
  begin_ran s i l = ne_eqb (digit i 0) 1 (λ e. absurd (omega (arith, digit_zero i, e)))

  module _ (x : Slot) (s : State) (h : Lengths s) (l : x.product < P.products) where
    pub slot_inventory : (i : ℕ) → inventory_of (slot_done P.line x s) i ≡ inventory_of s i + is x.product i * (P.line.rate x.product * x.minutes)
    unfolding slot_done inventory_of with_inventory with_line with_week with_profit with_mounted
    slot_inventory i = elim (ℕ_discrete x.product i) [
      | yes e ↦ rw (is_same x.product i e, ← e)
          (get_or-set_same s.inventory x.product _ 0 (omega (arith, h.inventory, R.products_most)) ∙ omega arith)
      | no d ↦ rw (is_other x.product i d)
          (get_or-set_other s.inventory x.product i _ 0 (λ e. d (omega arith)) ∙ omega arith)
    ]

    pub slot_ran : has_run s x.product ≡ false → (i : ℕ) → mark (has_run (slot_done P.line x s) i) ≡ mark (has_run s i) + is x.product i
    unfolding slot_done has_run with_inventory with_line with_week with_profit with_mounted
    slot_ran fresh i =
        mark_digit i (s.line.ran + 2 ^ x.product)
        ∙ (digit_set x.product i s.line.ran (digit_unset s.line.ran x.product fresh)
        ∙ ap (λ (n : ℕ). n + is x.product i) (sym (mark_digit i s.line.ran)))

  module _ (v : WeekInput) (s : State) (h : Lengths s) where
    pub week_inventory : (i : ℕ) → i < P.products → inventory_of (week_done P v s) i ≡ inventory_of s i - sold_of P v i
    unfolding week_done booked backlog_after inventory_after with_inventory with_backlog with_profit inventory_of
    week_inventory i l =
        row_first P.products (λ i stock. stock - sold_of P v i) s.inventory (omega (arith, h.inventory, R.products_most)) i l

    pub week_backlog : (c i : ℕ) → c < P.customers → i < P.products
        → backlog_of P.products (week_done P v s) c i ≡ backlog_of P.products s c i + v.demand c i - v.sales c i
    unfolding week_done booked backlog_after inventory_after with_inventory with_backlog with_profit backlog_of
    week_backlog c i k l =
        rows_at P.customers P.products (λ c i owed. owed + v.demand c i - v.sales c i) s.backlog (omega (arith, h.backlog, table_fits)) c i k l

-- the profit, by the cells after the week
pub week_profit : (P : Plant) (v : WeekInput) (s : State) → (week_done P v s).profit.0
    ≡ s.profit.0 +ℤ pos (revenue_of P v.sales) -ℤ pos (backlog_charge_of P (backlog_of P.products (week_done P v s)))
    -ℤ pos (inventory_charge_of P (inventory_of (week_done P v s)))
unfolding week_done booked backlog_after inventory_after with_inventory with_backlog with_profit backlog_of inventory_of
week_profit P v s = refl

-- ---- the clock, and the inventory that the limits of storage are tried on
pub begin_clock : (s : State) → (week_begin s).line.clock.0 ≡ 0
unfolding week_begin with_line with_week
begin_clock s = refl

pub slot_clock : (l : LinePlant) (x : Slot) (s : State) → (slot_done l x s).line.clock.0 ≡ clock_after l x s
unfolding slot_done with_inventory with_line with_week with_profit with_mounted
slot_clock l x s = refl

pub kept_inventory : (P : Plant) (v : WeekInput) (s : State) (i : ℕ)
    → inventory_of (inventory_after P v s) i ≡ inventory_of (week_done P v s) i
unfolding week_done booked backlog_after inventory_after with_inventory with_backlog with_profit inventory_of
kept_inventory P v s i = refl
