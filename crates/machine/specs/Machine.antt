-- The plant machine's three steps, as paper 01 has them under "The plant machine". Assumes nothing.
use Rattle.std.specs.Prelude.{ℕ, ◌+◌, ◌*◌, ◌-◌, ◌^◌, Bool, not, List, [], ◌∷◌, set, leb, ltb, pos, ◌+ℤ◌, ◌-ℤ◌}
use Rattle.mathematics.specs.Below.{sum_below, all_below, within}
use Rattle.plant_file.specs.Plant.{LinePlant, Plant}
use Rattle.slot_file.specs.Slots.{Slot, Slots}
use Rattle.std.specs.Prelude.{Some}
use Rattle.costs.specs.Changeover.{changeover_to}
use Rattle.costs.specs.Money.{revenue_of, backlog_charge_of, inventory_charge_of, changeover_charge_of}
use Rattle.machine.specs.declared.State.{State}
use Rattle.machine.specs.State.{Step, inventory_of, backlog_of, has_run, with_inventory, with_backlog, with_week, with_profit, with_mounted}
use Rattle.machine.specs.State.{update_row, update_rows, Stop, stop, first_met, stepped}
use Rattle.sections.specs.declared.Refusal.TheVariants as refusal

-- ---- "Week begins: clock 0, no product run."
unfoldable pub week_begin : State → State
week_begin s = with_week s 0 0

-- ---- a slot (p, m) on a line
-- "If something is mounted, add the changeover minutes from it to p to the clock", and m
unfoldable pub clock_after : LinePlant → Slot → State → ℕ
clock_after l x s = s.line.clock.0 + changeover_to l.changeover_minutes s.line.mounted x.product + x.minutes

-- "take 1000 times the cents from the purse. .. Stock of p rises by r times m; p is mounted." That p ran this week is digit p of `ran`, which
-- stop 25 has found to be 0
unfoldable pub slot_done : LinePlant → Slot → State → State
slot_done l x s =
    with_mounted
    (with_profit
    (with_week
    (with_inventory s (set s.inventory x.product (inventory_of s x.product + l.rate x.product * x.minutes)))
    (s.line.ran + 2 ^ x.product) (clock_after l x s))
    (s.profit.0 -ℤ pos (changeover_charge_of (changeover_to l.changeover_cents s.line.mounted x.product))))
    (Some x.product)

-- "stop 25 if p ran this week; stop 35 if m is below the shortest run; .. stop 36 if the clock passes the week's minutes"
unfoldable pub slot_stops : Plant → LinePlant → Slot → State → List Stop
slot_stops P l x s =
    stop refusal.ProductTwice (has_run s x.product)
    ∷ stop refusal.RunMinutes (ltb x.minutes P.shortest_run)
    ∷ stop refusal.WeekMinutes (ltb P.week_minutes (clock_after l x s))
    ∷ []

unfoldable pub slot_step : Plant → LinePlant → Slot → State → Step
slot_step P l x s = stepped (first_met (slot_stops P l x s)) s (slot_done l x s)

-- ---- the end of a week
-- what comes into a week: its slots in running order, and, by customer and product, what is wanted and what is sold
pub record WeekInput : Type 0 where
  pub slots : List Slot
  pub demand : ℕ → ℕ → ℕ
  pub sales : ℕ → ℕ → ℕ

-- into week w: section 5's demand, and the slots and sales of sections 42 and 43
abbrev pub week_input : Plant → Slots → ℕ → WeekInput
week_input P S w = record { slots = S.line.week w; demand = λ c i. P.demand c i w; sales = λ c i. S.sales c i w }

-- a product's sales, over the customers
abbrev pub sold_of : Plant → WeekInput → ℕ → ℕ
sold_of P v i = sum_below P.customers (λ c. v.sales c i)

-- no sale "exceeds owed plus demand"
unfoldable pub sales_due : Plant → WeekInput → State → Bool
sales_due P v s =
    all_below P.customers (λ c. all_below P.products (λ i. leb (v.sales c i) (backlog_of P.products s c i + v.demand c i)))

-- "else owed becomes owed + demand − sale"
unfoldable pub backlog_after : Plant → WeekInput → State → State
backlog_after P v s =
    with_backlog s (update_rows P.customers P.products (λ c i owed. owed + v.demand c i - v.sales c i) s.backlog)

-- no product's sales "exceed its stock"
unfoldable pub sales_in_stock : Plant → WeekInput → State → Bool
sales_in_stock P v s = all_below P.products (λ i. leb (sold_of P v i) (inventory_of s i))

-- "else subtract them"
unfoldable pub inventory_after : Plant → WeekInput → State → State
inventory_after P v s = with_inventory s (update_row 0 P.products (λ i stock. stock - sold_of P v i) s.inventory)

-- no stock "is outside its limits"
unfoldable pub storage_kept : Plant → State → Bool
storage_kept P s = all_below P.products (λ i. within (P.least_storage i) (P.greatest_storage i) (inventory_of s i))

-- "The purse gains price times sale, and loses backlog cost times new owed and inventory cost times new stock."
unfoldable pub booked : Plant → WeekInput → State → State
booked P v s =
    with_profit s
    (s.profit.0 +ℤ pos (revenue_of P v.sales) -ℤ pos (backlog_charge_of P (backlog_of P.products s)) -ℤ pos (inventory_charge_of P (inventory_of s)))

-- the state after the week, where nothing stops. (Backlog and inventory do not meet: their order does not matter.)
unfoldable pub week_done : Plant → WeekInput → State → State
week_done P v s = booked P v (backlog_after P v (inventory_after P v s))

-- "stop 38 if the sale exceeds owed plus demand .. stop 39 if the product's sales exceed its stock .. stop 40 if stock is outside its limits".
-- A round meets each cell once and has one number, so it stops exactly if its test fails at some cell
abbrev pub week_stops : (due inStock kept : Bool) → List Stop
week_stops due inStock kept = stop refusal.Backlog (not due) ∷ stop refusal.Inventory (not inStock) ∷ stop refusal.Storage (not kept) ∷ []

unfoldable pub week_end : Plant → WeekInput → State → Step
week_end P v s =
    stepped (first_met (week_stops (sales_due P v s) (sales_in_stock P v s) (storage_kept P (inventory_after P v s)))) s (week_done P v s)
