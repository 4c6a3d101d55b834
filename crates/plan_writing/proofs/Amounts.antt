-- A week's row of T or P is what its slots store. Assumes nothing.
use Prim.Native.Nat.{ℕ, ◌+◌, ◌*◌, ◌<◌}
use mathlib.Core.Path.{◌≡◌, refl, sym, ap, ◌∙◌}
use mathlib.Core.List.{List, [], ◌∷◌}
use native.Mathlib.Omega.{arith}
use native.Mathlib.Nat.{mul-add}
use native.Mathlib.Decide.{ℕ_discrete}
use lib.ListN.{length, get_or}
use Rattle.mathematics.specs.Below.{is}
use Rattle.mathematics.proofs.Below.{sum_first, is_same, is_other}
use Rattle.mathematics.proofs.OrderTables.{OrderFacts}
use Rattle.numbers.specs.Number.{digits, encode, store}
use Rattle.numbers.proofs.Number.{encode_ext}
use Rattle.slot_file.specs.Slots.{Slot, no_slot, order_of_slots}
use Rattle.slot_file.proofs.Orders.{order_length, order_at_lem}
use Rattle.model.specs.RunTables.{minutes_of}
use Rattle.plan_writing.specs.Ran.{Cleared}
use Rattle.plan_writing.proofs.Scatter.{stored, slot_stored}
use Rattle.plan_writing.proofs.Zeros.{cleared_table}

-- slot u stores its minutes by a factor of its product, in its product's cell
module _ (factor : ℕ → ℕ) (xs : List Slot) where
  abbrev pub amount_at : ℕ → ℕ
  amount_at u = factor (get_or xs u no_slot).product * (get_or xs u no_slot).minutes

  abbrev pub product_at : ℕ → ℕ
  product_at u = (get_or xs u no_slot).product

  -- number j after k of them
  abbrev pub amounts : (k j : ℕ) → ℕ
  amounts = stored amount_at product_at

-- the factor is that of the cell's product
amount_one : (factor : ℕ → ℕ) (p m j : ℕ) → factor p * m * is p j ≡ factor j * (is p j * m)
amount_one factor p m j =
    elim (ℕ_discrete p j) [
      | yes e ↦ rw (e, is_same j j refl) (omega arith)
      | no d ↦ rw (is_other p j d) (omega arith)
    ]

pub amounts_all : (factor : ℕ → ℕ) (xs : List Slot) (j : ℕ) → amounts factor xs (length xs) j ≡ factor j * minutes_of xs j
amounts_all factor [] j = omega arith
amounts_all factor (x ∷ xs) j =
    sum_first (length xs) (λ u. amount_at factor (x ∷ xs) u * is (product_at factor (x ∷ xs) u) j)
    ∙ ((λ u. amount_one factor x.product x.minutes j u + amounts_all factor xs j u)
    ∙ sym (mul-add (factor j) (is x.product j * x.minutes) (minutes_of xs j)))

-- ---- the bytes of the row of N numbers: none, one more, and all of the slots
module _ (factor : ℕ → ℕ) (xs : List Slot) (width N : ℕ) (s : List ℕ) where
  pub none_stored : Cleared (width * N) s → s ≡ store s 0 (encode width N (amounts factor xs 0))
  none_stored h = cleared_table width N s h

  pub one_stored : OrderFacts N (order_of_slots xs) → (k p v : ℕ) (out : List ℕ) → k < length xs → p ≡ (get_or xs k no_slot).product
      → v ≡ amount_at factor xs k → out ≡ store s 0 (encode width N (amounts factor xs k))
      → store out (width * p) (digits width v) ≡ store s 0 (encode width N (amounts factor xs (k + 1)))
  one_stored o k p v out l e w h =
      let size = order_length xs in
      let below = o.below k (omega arith) in
      slot_stored (amount_at factor xs) (product_at factor xs) width k N v (width * p) s out h (ap (λ (x : ℕ). width * x) e) w
      (omega (arith, below, order_at_lem xs k))
      (λ u j d. let same = o.distinct u k (omega arith) (omega arith) (order_at_lem xs u ∙ (d ∙ sym (order_at_lem xs k))) in absurd (omega arith))

  pub all_stored : (k : ℕ) → k ≡ length xs
      → store s 0 (encode width N (amounts factor xs k)) ≡ store s 0 (encode width N (λ j. factor j * minutes_of xs j))
  all_stored k e = ap (store s 0) (encode_ext width N _ _ (λ j l. ap (λ (x : ℕ). amounts factor xs x j) e ∙ amounts_all factor xs j))
