-- The slots of a week's row. Assumes nothing.
use Prim.Native.Nat.{ℕ, ◌≤◌, ◌<◌}
use mathlib.Core.Path.{◌≡◌, sym, ◌∙◌}
use mathlib.Core.Bool.{true}
use native.Mathlib.Omega.{arith}
use lib.ListN.{length, get_or}
use Rattle.mathematics.specs.Order.{is_order, order_at}
use Rattle.mathematics.proofs.OrderTables.{OrderFacts, order_facts}
use Rattle.slot_file.specs.Slots.{no_slot, order_of_slots}
use Rattle.slot_file.specs.Accepted.{slots_in_week}
use Rattle.slot_file.specs.declared.WeekRow.{WeekRow}
use Rattle.slot_file.proofs.Orders.{order_length, order_at_lem}
use Rattle.slot_file.proofs.SlotReads.{slots_formed, week_length}

-- the row of a week that has no product twice
pub record RunWeek (row : WeekRow) : Type 0 where
  pub week : row.week < row.file.shape.weeks
  pub once : is_order row.file.shape.products (order_of_slots (slots_in_week row)) ≡ true

module _ {row : WeekRow} (h : RunWeek row) where
  pub row_size : length (slots_in_week row) ≡ row.count
  row_size = week_length row.file.shape row.file.bytes.now row.week ∙ sym (row.counted h.week)

  pub order_size : length (order_of_slots (slots_in_week row)) ≡ row.count
  order_size = order_length (slots_in_week row) ∙ row_size

  pub order_is : OrderFacts row.file.shape.products (order_of_slots (slots_in_week row))
  order_is = order_facts row.file.shape.products (order_of_slots (slots_in_week row)) h.once

  pub few_slots : row.count ≤ row.file.shape.products
  few_slots = omega (arith, (slots_formed row.file.shape row.file.bytes.now row.file.accepted row.week h.week).few, row_size)

  pub some_product : 1 ≤ row.count → 0 < row.file.shape.products
  some_product l = omega (arith, order_is.below 0 (omega (arith, order_size)))

  -- the product of slot k, as the accessor gives it
  pub product_at_lem : (k : ℕ) {p : ℕ} → p ≡ (get_or (slots_in_week row) k no_slot).product → p ≡ order_at (order_of_slots (slots_in_week row)) k
  product_at_lem k e = e ∙ sym (order_at_lem (slots_in_week row) k)
