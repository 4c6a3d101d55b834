-- The bytes of slots in running order, as a join of three bytes each. Assumes nothing.
use Prim.Native.Nat.{ℕ, ◌*◌}
use mathlib.Core.Path.{◌≡◌, refl}
use mathlib.Core.List.{List, [], ◌∷◌, ◌++◌}
use native.Mathlib.Omega.{arith}
use lib.ListN.{length, get_or}
use Rattle.mathematics.specs.Below.{join_below}
use Rattle.numbers.specs.Number.{digits}
use Rattle.slot_file.specs.Slots.{Slot, no_slot}
use Rattle.slot_file.specs.File.{slot_bytes}
use Rattle.mathematics.proofs.Join.{join_first}

-- the bytes of one slot
abbrev pub bytes_of : Slot → List ℕ
bytes_of x = digits 1 x.product ++ digits 2 x.minutes

pub slot_join : (xs : List Slot) → slot_bytes xs ≡ join_below (length xs) (λ k. bytes_of (get_or xs k no_slot))
slot_join [] = refl
slot_join (x ∷ xs) = rw (slot_join xs, join_first (length xs) (λ k. bytes_of (get_or (x ∷ xs) k no_slot)))

pub bytes_length : (xs : List Slot) → length (slot_bytes xs) ≡ length xs * 3
bytes_length [] = refl
bytes_length (x ∷ xs) = omega (arith, bytes_length xs)
