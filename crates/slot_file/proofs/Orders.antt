-- The products of a list of slots, in running order. Assumes nothing.
use Prim.Native.Nat.{ℕ, zero, suc}
use mathlib.Core.Path.{◌≡◌, refl, ap}
use mathlib.Core.List.{List, [], ◌∷◌}
use native.Mathlib.Omega.{arith}
use lib.ListN.{length, get_or}
use Rattle.mathematics.specs.Order.{ProductsBelow}
use Rattle.slot_file.specs.Slots.{Slot, no_slot, order_of_slots, WeekFormed}

pub order_length : (xs : List Slot) → length (order_of_slots xs) ≡ length xs
order_length [] = refl
order_length (x ∷ xs) = ap suc (order_length xs)

pub order_at_lem : (xs : List Slot) (k : ℕ) → get_or (order_of_slots xs) k 0 ≡ (get_or xs k no_slot).product
order_at_lem [] k = refl
order_at_lem (x ∷ xs) zero = refl
order_at_lem (x ∷ xs) (suc k) = order_at_lem xs k

pub order_below : (N : ℕ) (xs : List Slot) → WeekFormed N xs → ProductsBelow N (order_of_slots xs)
order_below N xs f k l = rw (order_at_lem xs k) (f.product k (omega (arith, order_length xs)))
