-- Tests and sums over the rows and columns of a table: by columns, both tests at once, and flat, where row i, column j of m by n stands
-- at i * n + j. Assumes nothing.
use Prim.Native.Nat.{ℕ, zero, suc, ◌+◌, ◌*◌, ◌/◌, ◌%◌, ◌<◌, ◌≤◌}
use mathlib.Core.Path.{◌≡◌, refl, sym, ap, ◌∙◌}
use mathlib.Core.Bool.{Bool, true, false, ◌&&◌}
use native.Mathlib.Omega.{arith}
use Rattle.std.proofs.Math.Bool.{and_assoc, and-true}
use native.Mathlib.Nat.{add-zero, add-suc, zero-mul, suc-mul, mul_comm, mul-le-mul_right, le_trans}
use Rattle.mathematics.specs.Below.{sum_below, all_below}
use Rattle.mathematics.proofs.Below.{sum_ext, sum_mono, sum_mul, sum_swap, sum_const, all_each, each_all}
use Rattle.mathematics.proofs.Join.{row_of, column_of}

-- ---- tests
pub all_ext : (n : ℕ) (p q : ℕ → Bool) → ((i : ℕ) → i < n → p i ≡ q i) → all_below n p ≡ all_below n q
all_ext zero p q h = refl
all_ext (suc n) p q h = rw (all_ext n p q (λ i l. h i (omega arith)), h n (omega arith))

pub and_swap : (a b c d : Bool) → ((a && b) && (c && d)) ≡ ((a && c) && (b && d))
and_swap true true c d = refl
and_swap true false true d = refl
and_swap true false false d = refl
and_swap false b c d = refl

pub all_both : (n : ℕ) (p q : ℕ → Bool) → (all_below n p && all_below n q) ≡ all_below n (λ i. p i && q i)
all_both zero p q = refl
all_both (suc n) p q = and_swap (all_below n p) (p n) (all_below n q) (q n) ∙ ap (λ (b : Bool). b && (p n && q n)) (all_both n p q)

all_true : (n : ℕ) → all_below n (λ i. true) ≡ true
all_true zero = refl
all_true (suc n) = ap (λ (b : Bool). b && true) (all_true n)

-- at each row and column
pub all_grid : (n m : ℕ) (p : ℕ → ℕ → Bool) → all_below n (λ i. all_below m (p i)) ≡ true → (i j : ℕ) → i < n → j < m → p i j ≡ true
all_grid n m p h i j l k = all_each m (p i) (all_each n (λ u. all_below m (p u)) h i l) j k

pub grid_all : (n m : ℕ) (p : ℕ → ℕ → Bool) → ((i j : ℕ) → i < n → j < m → p i j ≡ true) → all_below n (λ i. all_below m (p i)) ≡ true
grid_all n m p h = each_all n (λ u. all_below m (p u)) (λ i l. each_all m (p i) (λ j k. h i j l k))

-- rows and columns, either way
pub all_swap : (n m : ℕ) (p : ℕ → ℕ → Bool) → all_below n (λ i. all_below m (p i)) ≡ all_below m (λ j. all_below n (λ i. p i j))
all_swap zero m p = sym (all_true m)
all_swap (suc n) m p = ap (λ (b : Bool). b && all_below m (p n)) (all_swap n m p) ∙ all_both m (λ j. all_below n (λ i. p i j)) (p n)

pub all_add : (m n : ℕ) (p : ℕ → Bool) → all_below (m + n) p ≡ (all_below m p && all_below n (λ j. p (m + j)))
all_add m zero p = rw (add-zero, and-true)
all_add m (suc n) p = rw (add-suc, all_add m n p, and_assoc)

pub all_table : (m n : ℕ) (p : ℕ → ℕ → Bool) → all_below m (λ c. all_below n (λ i. p c i)) ≡ all_below (m * n) (λ k. p (k / n) (k % n))
all_table zero n p = rw zero-mul
all_table (suc m) n p =
    let q : ℕ → Bool = λ k. p (k / n) (k % n) in
    let b : all_below n (p m) ≡ all_below n (λ j. q (m * n + j)) =
    all_ext n (p m) (λ j. q (m * n + j)) (λ i l. sym ((λ u. p (row_of m l u) (column_of m l u)))) in
    rw (suc-mul, all_add (m * n) n q, all_table m n p, b)

-- ---- sums
sum_split : (m n : ℕ) (f : ℕ → ℕ) → sum_below (m + n) f ≡ sum_below m f + sum_below n (λ j. f (m + j))
sum_split m zero f = rw add-zero (omega arith)
sum_split m (suc n) f = rw add-suc (omega (arith, sum_split m n f))

pub sum_table : (m n : ℕ) (f : ℕ → ℕ → ℕ) → sum_below m (λ c. sum_below n (λ i. f c i)) ≡ sum_below (m * n) (λ k. f (k / n) (k % n))
sum_table zero n f = rw zero-mul
sum_table (suc m) n f =
    let g : ℕ → ℕ = λ k. f (k / n) (k % n) in
    rw suc-mul
    (omega (arith, sum_split (m * n) n g, sum_table m n f, sum_ext n (f m) (λ j. g (m * n + j)) (λ i l. sym ((λ u. f (row_of m l u) (column_of m l u))))))

-- terms that are each at most a bound
pub sum_most : (n most : ℕ) (f : ℕ → ℕ) → ((i : ℕ) → i < n → f i ≤ most) → sum_below n f ≤ n * most
sum_most n most f h = omega (arith, sum_mono n f (λ i. most) h, sum_const n most)

-- so few of them
pub sum_few : {n m : ℕ} (most : ℕ) (f : ℕ → ℕ) → n ≤ m → ((i : ℕ) → i < n → f i ≤ most) → sum_below n f ≤ m * most
sum_few {n} most f l h = le_trans (sum_most n most f h) (mul-le-mul_right most l)

-- amounts by week, each times its price: all weeks of a place together
pub sum_priced : (w m n : ℕ) (price : ℕ → ℕ → ℕ) (amount : ℕ → ℕ → ℕ → ℕ)
    → sum_below w (λ u. sum_below m (λ c. sum_below n (λ i. price c i * amount c i u)))
    ≡ sum_below (m * n) (λ k. price (k / n) (k % n) * sum_below w (amount (k / n) (k % n)))
sum_priced w m n price amount =
    sum_ext w _ _ (λ u l. sum_table m n (λ c i. price c i * amount c i u))
    ∙ sum_swap w (m * n) (λ u k. price (k / n) (k % n) * amount (k / n) (k % n) u)
    ∙ sum_ext (m * n) _ _ (λ k l.
    let p = price (k / n) (k % n) in
    let a = amount (k / n) (k % n) in
    sum_ext w (λ u. p * a u) (λ u. a u * p) (λ u h. mul_comm p (a u)) ∙ sum_mul w a p ∙ mul_comm (sum_below w a) p)
