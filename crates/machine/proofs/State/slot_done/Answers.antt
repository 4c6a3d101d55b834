-- `machine::State::slot_done` meets its contract. Assumes nothing.
use Prim.Native.Nat.{◌+◌, ◌*◌, ◌%◌, ◌^◌, ◌≤◌}
use mathlib.Core.Path.{◌≡◌}
use native.Mathlib.Omega.{arith}
use Rattle.machine.specs.State.{inventory_of, with_inventory, with_line, with_week, with_profit, with_mounted}
use Rattle.machine.specs.Machine.{slot_done}
use Rattle.machine.proofs.Plants.{few}
use Rattle.machine.proofs.Digits.{power_most}
use Rattle.machine.proofs.State.slot_done.Goals as goal
use Rattle.machine.proofs.State.slot_done.Goals.{Start}

-- the product has a place in the array
place : (c : Start) → c.args.slot.product + 1 ≤ 16
place c = omega (arith, (few c.args.plant).products, c.requires.0)

-- and a binary digit
power : (c : Start) → 2 ^ c.args.slot.product ≤ 32768
power c = omega (arith, power_most c.args.slot.product 15 (omega (arith, place c)))

shifted : (c : Start) → 1 * 2 ^ c.args.slot.product % 18446744073709551616 ≡ 2 ^ c.args.slot.product
shifted c = omega (arith, power c)

pub bounds-inventory-product : goal.bounds-inventory-product
bounds-inventory-product c = omega (arith, place (goal.at.bounds-inventory-product c).Start)

pub bounds-inventory-product-2 : goal.bounds-inventory-product-2
bounds-inventory-product-2 c = omega (arith, place (goal.at.bounds-inventory-product-2 c).Start)

pub overflow_shl-ran : goal.overflow_shl-ran
overflow_shl-ran c = omega (arith, place (goal.at.overflow_shl-ran c).Start)

pub overflow_add-inventory : goal.overflow_add-inventory
unfolding inventory_of
overflow_add-inventory c = omega (arith, c.requires.2.inventory_most _ c.requires.0)

pub overflow_add-ran : goal.overflow_add-ran
overflow_add-ran c = omega (arith, shifted (goal.at.overflow_add-ran c).Start, power (goal.at.overflow_add-ran c).Start, c.requires.2.ran_most)

pub returns : goal.returns
unfolding slot_done inventory_of with_inventory with_line with_week with_profit with_mounted
returns c =
    rw (
      shifted (goal.at.returns c).Start,
      ← c.clock_after-clock.ensures,
      ← c.changeover_to-over.ensures.cents,
      ← c.in_thousandths.ensures,
      ← c.pay-profit.ensures.0,
    )
    (rw (← c.rate.ensures.0, ← c.produced-grams.ensures.0))
