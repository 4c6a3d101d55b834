-- "The run's tables", as paper 01 has them under "The plant machine". Assumes nothing.
use Rattle.std.specs.Prelude.{ℕ, zero, suc, ◌+◌, ◌*◌, cond, List, [], ◌∷◌, eqb}
use Rattle.mathematics.specs.Below.{is}
use Rattle.mathematics.specs.Order.{assigned_in, first_in, last_in, position_in, changeover_in}
use Rattle.plant_file.specs.Plant.{Plant}
use Rattle.plan_file.specs.Plan.{LinePlan, Plan}
use Rattle.slot_file.specs.Slots.{Slot, order_of_slots, LineSlots, Slots}
use Rattle.std.specs.Prelude.{None, Some}
use Rattle.costs.specs.Mounted.{Mounted, is_mounted}
use Rattle.machine.specs.State.{inventory_of, backlog_of}
use Rattle.machine.specs.Run.{after}

-- the product below N that has the mark
abbrev pub mounted_of : ℕ → (ℕ → ℕ) → Mounted
mounted_of zero mark = None
mounted_of (suc n) mark = cond (eqb (mark n) 1) (Some n) (mounted_of n mark)

-- what is mounted after these products, where m was before
abbrev pub last_of : Mounted → List ℕ → Mounted
last_of m [] = m
last_of m (p ∷ ps) = last_of (Some p) ps

-- "T, P are minutes and grams"
abbrev pub minutes_of : List Slot → ℕ → ℕ
minutes_of [] i = 0
minutes_of (x ∷ xs) i = is x.product i * x.minutes + minutes_of xs i

-- "E, F, L say who ran, first, last. Z marks neighbours within the week. .. O is the place in the week from 1, or 0": the tables of the
-- week's order. "ZF marks last of the week before to first of this one (a product to itself included; all 0 in week 0)", by request 2026-01 "the
-- last product of the last producing week", by request 2026-02 in week 0 too: what is mounted before the week, to its first product
unfoldable pub line_tables : (before : ℕ → Mounted) → LineSlots → LinePlan
line_tables before slots =
    record {
      assigned = λ w. assigned_in (order_of_slots (slots.week w));
      first = λ w. first_in (order_of_slots (slots.week w));
      last = λ w. last_in (order_of_slots (slots.week w));
      changeover = λ w. changeover_in (order_of_slots (slots.week w));
      week_changeover = λ w i j. is_mounted (before w) i * first_in (order_of_slots (slots.week w)) j;
      position = λ w. position_in (order_of_slots (slots.week w));
      minutes = λ w. minutes_of (slots.week w);
    }

-- what the run has mounted before each week
abbrev pub mounted_at : Plant → Slots → ℕ → Mounted
mounted_at P S w = (after P S w).line.mounted

-- "S is the slot file's section 43, V and Δ are stock and owed after the week, and section 32 is the purse after the last week."
unfoldable pub run_tables : Plant → Slots → Plan
run_tables P S =
    record {
      line = line_tables (mounted_at P S) S.line;
      production = λ w i. P.line.rate i * minutes_of (S.line.week w) i;
      sales = S.sales;
      inventory = λ w i. inventory_of (after P S (suc w)) i;
      backlog = λ c i w. backlog_of P.products (after P S (suc w)) c i;
      profit = (after P S P.weeks).profit.0;
    }
