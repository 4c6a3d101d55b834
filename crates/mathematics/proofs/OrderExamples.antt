-- Weeks computed: an order of three of four products, and a ring that the sums alone let pass. Assumes nothing.
use Prim.Native.Nat.{ℕ}
use mathlib.Core.Path.{◌≡◌, refl}
use mathlib.Core.Bool.{true, false}
use mathlib.Core.List.{List, [], ◌∷◌}
use lib.ListN.{get_or}
use Rattle.mathematics.specs.Below.{list_below, is}
use Rattle.mathematics.specs.Week.{WeekTables, binary, marked_once, one_each, shut, rule31, rule32, rule34}
use Rattle.mathematics.specs.Order.{is_order, assigned_in, first_in, last_in, position_in, changeover_in, order_tables, product_at, order_of}

-- ---- four products, of which 2, 0 and 3 are made in this order
abbrev example : List ℕ
example = 2 ∷ 0 ∷ 3 ∷ []

is_order_lem : is_order 4 example ≡ true
unfolding is_order
is_order_lem = refl

-- no orders: a product twice, one that is not below 4
not_orders : (is_order 4 (2 ∷ 0 ∷ 2 ∷ []) ≡ false) × (is_order 4 (2 ∷ 4 ∷ []) ≡ false)
unfolding is_order
not_orders = (refl, refl)

tables : (list_below 4 (assigned_in example) ≡ 1 ∷ 0 ∷ 1 ∷ 1 ∷ [])
    × (list_below 4 (first_in example) ≡ 0 ∷ 0 ∷ 1 ∷ 0 ∷ [])
    × (list_below 4 (last_in example) ≡ 0 ∷ 0 ∷ 0 ∷ 1 ∷ [])
    × (list_below 4 (position_in example) ≡ 2 ∷ 0 ∷ 1 ∷ 3 ∷ [])
unfolding is
tables = (refl, refl, refl, refl)

changeovers : list_below 4 (λ i. list_below 4 (changeover_in example i))
    ≡ (0 ∷ 0 ∷ 0 ∷ 1 ∷ []) ∷ (0 ∷ 0 ∷ 0 ∷ 0 ∷ []) ∷ (1 ∷ 0 ∷ 0 ∷ 0 ∷ []) ∷ (0 ∷ 0 ∷ 0 ∷ 0 ∷ []) ∷ []
unfolding is
changeovers = refl

passes : (binary 4 (order_tables example) ≡ true) × (rule31 4 (order_tables example) ≡ true)
    × (rule32 4 (order_tables example) ≡ true) × (rule34 4 (order_tables example) ≡ true)
unfolding binary marked_once one_each rule31 rule32 rule34 is
passes = (refl, refl, refl, refl)

computed : order_of 4 (order_tables example) ≡ example
unfolding order_of product_at is
computed = refl

-- ---- product 0 alone as first and last, beside 1 and 2 in a ring
abbrev table : List ℕ → ℕ → ℕ
table t i = get_or t i 0

abbrev ring : (ℕ → ℕ) → WeekTables
ring position =
    record {
      assigned = table (1 ∷ 1 ∷ 1 ∷ []);
      first = table (1 ∷ 0 ∷ 0 ∷ []);
      last = table (1 ∷ 0 ∷ 0 ∷ []);
      position = position;
      changeover = λ i j. table (get_or ((0 ∷ 0 ∷ 0 ∷ []) ∷ (0 ∷ 0 ∷ 1 ∷ []) ∷ (0 ∷ 1 ∷ 0 ∷ []) ∷ []) i []) j;
    }

-- rules 31 and 32 hold, whatever the positions
ring_passes : (position : ℕ → ℕ) → (binary 3 (ring position) ≡ true) × (rule31 3 (ring position) ≡ true) × (rule32 3 (ring position) ≡ true)
unfolding binary marked_once one_each rule31 rule32
ring_passes position = (refl, refl, refl)

-- rule 34 fails, with counted positions and with equal ones
ring_fails : (rule34 3 (ring (table (1 ∷ 2 ∷ 3 ∷ []))) ≡ false) × (rule34 3 (ring (table (1 ∷ 1 ∷ 1 ∷ []))) ≡ false)
unfolding rule34
ring_fails = (refl, refl)

-- ---- one product: the week makes it, or is shut; a mark without the others breaks rule 31
abbrev one_product : (assigned first last : ℕ) → WeekTables
one_product assigned first last =
    record {
      assigned = λ i. assigned;
      first = λ i. first;
      last = λ i. last;
      position = λ i. assigned;
      changeover = λ i j. 0;
    }

one_product_31 : (rule31 1 (one_product 1 1 1) ≡ true) × (rule31 1 (one_product 0 0 0) ≡ true)
    × (rule31 1 (one_product 1 0 0) ≡ false) × (rule31 1 (one_product 0 1 0) ≡ false) × (rule31 1 (one_product 0 0 1) ≡ false)
    × (rule31 1 (one_product 0 1 1) ≡ false)
unfolding marked_once one_each shut rule31
one_product_31 = (refl, refl, refl, refl, refl, refl)
