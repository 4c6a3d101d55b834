-- Orders of production: the tables of a week that an order makes, and the order that a week's tables show. Assumes nothing.
use Rattle.std.specs.Prelude.{ℕ, suc, ◌+◌, ◌*◌, ◌<◌, ◌≡◌, Bool, ◌&&◌, not, List, [], ◌∷◌, length, get_or, eqb, ltb}
use Rattle.mathematics.specs.Below.{all_below, list_below, first_below, is}
use Rattle.mathematics.specs.Week.{WeekTables, count}

-- the k-th product, k counted from 0
abbrev pub order_at : List ℕ → ℕ → ℕ
order_at order k = get_or order k 0

-- each product is below N
abbrev pub ProductsBelow : ℕ → List ℕ → Type 0
ProductsBelow N order = (k : ℕ) → k < length order → order_at order k < N

-- products below N, none twice
unfoldable pub is_order : ℕ → List ℕ → Bool
is_order N order =
    all_below (length order) (λ k. ltb (order_at order k) N)
    && all_below (length order) (λ k. all_below k (λ l. not (eqb (order_at order l) (order_at order k))))

-- E: how often the product stands in the order
abbrev pub assigned_in : List ℕ → ℕ → ℕ
assigned_in [] i = 0
assigned_in (p ∷ ps) i = is p i + assigned_in ps i

-- F: 1 for the first product
abbrev pub first_in : List ℕ → ℕ → ℕ
first_in [] i = 0
first_in (p ∷ ps) i = is p i

-- L: 1 for the last product
abbrev pub last_in : List ℕ → ℕ → ℕ
last_in [] i = 0
last_in (p ∷ []) i = is p i
last_in (p ∷ q ∷ ps) i = last_in (q ∷ ps) i

-- O: where the product stands, counted from 1, and 0 where it does not; k products stand before these
abbrev pub position_from : ℕ → List ℕ → ℕ → ℕ
position_from k [] i = 0
position_from k (p ∷ ps) i = is p i * suc k + position_from (suc k) ps i

abbrev pub position_in : List ℕ → ℕ → ℕ
position_in order i = position_from 0 order i

-- Z: 1 where j stands directly after i
abbrev pub changeover_in : List ℕ → ℕ → ℕ → ℕ
changeover_in [] i j = 0
changeover_in (p ∷ ps) i j = is p i * first_in ps j + changeover_in ps i j

-- the tables that an order makes
abbrev pub order_tables : List ℕ → WeekTables
order_tables order =
    record {
      assigned = assigned_in order;
      first = first_in order;
      last = last_in order;
      position = position_in order;
      changeover = changeover_in order;
    }

-- the product with position k + 1
unfoldable pub product_at : ℕ → WeekTables → ℕ → ℕ
product_at N x k = first_below N (λ i. eqb (x.position i) (suc k))

-- the order that E and O show
unfoldable pub order_of : ℕ → WeekTables → List ℕ
order_of N x = list_below (count N x) (product_at N x)

-- the same entries for the products below N
pub record Agree (N : ℕ) (x y : WeekTables) : Type 0 where
  pub assigned : (i : ℕ) → i < N → x.assigned i ≡ y.assigned i
  pub first : (i : ℕ) → i < N → x.first i ≡ y.first i
  pub last : (i : ℕ) → i < N → x.last i ≡ y.last i
  pub position : (i : ℕ) → i < N → x.position i ≡ y.position i
  pub changeover : (i : ℕ) → i < N → (j : ℕ) → j < N → x.changeover i j ≡ y.changeover i j
