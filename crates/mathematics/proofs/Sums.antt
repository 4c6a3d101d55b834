-- More laws of sums and tests over the numbers below a bound. Assumes nothing.
use Prim.Native.Nat.{ℕ, ◌+◌, ◌*◌, ◌<◌, ◌≤◌}
use mathlib.Core.Path.{◌≡◌, sym, ap, ◌∙◌}
use mathlib.Core.Logic.{◌↔◌}
use mathlib.Core.Bool.{true}
use native.Mathlib.Omega.{arith}
use native.Mathlib.Decide.{ℕ_discrete}
use lib.Dec.{eqb}
use borrow.Author.Tests.{eqb-true, eq-eqb}
use Rattle.mathematics.specs.Below.{sum_below, all_below, is}
use Rattle.mathematics.proofs.Below.{sum_ext, sum_mono, sum_add, sum_mul, sum_swap, sum_some, sum_tight, sum_is_times}
use Rattle.mathematics.proofs.Below.{all_each, each_all, bit_le, bit_eq, bit_iff}

-- ---- numbers of 0 or 1
pub bit_one : (a : ℕ) → a ≤ 1 → (a ≡ 0 → ⊥) → a ≡ 1
bit_one a b h = elim (ℕ_discrete a 0) [ yes e ↦ absurd (h e) | no d ↦ omega arith ]

pub bit_zero : (a : ℕ) → a ≤ 1 → (a ≡ 1 → ⊥) → a ≡ 0
bit_zero a b h = elim (ℕ_discrete a 1) [ yes e ↦ absurd (h e) | no d ↦ omega arith ]

-- a number that is 1 where it is not 0
pub bit_le_one : (a : ℕ) → (1 ≤ a → a ≡ 1) → a ≤ 1
bit_le_one a h = elim (ℕ_discrete a 0) [ yes e ↦ omega arith | no d ↦ omega (arith, h (omega arith)) ]

pub bit_part : (a n : ℕ) → a ≤ 1 → a * n ≤ n
bit_part a n b = elim (ℕ_discrete a 0) [ yes e ↦ rw e (omega arith) | no d ↦ (let e : a ≡ 1 = omega arith in rw e (omega arith)) ]

-- two of them that say the same
pub bit_same : {a b : ℕ} {P : Type 0} → a ≤ 1 → b ≤ 1 → (a ≡ 1 ↔ P) → (b ≡ 1 ↔ P) → a ≡ b
bit_same p q f g =
    bit_iff p q (λ h. omega (arith, g.1 (f.0 (omega arith)))) (λ h. omega (arith, f.1 (g.0 (omega arith))))

-- ---- sums of terms under a mark of 0 or 1
module _ (n : ℕ) (mark f g : ℕ → ℕ) (bit : (i : ℕ) → i < n → mark i ≤ 1) (le : (i : ℕ) → i < n → mark i ≡ 1 → f i ≤ g i) where
  term_le : (i : ℕ) → i < n → mark i * f i ≤ mark i * g i
  term_le i l = bit_le (mark i) (f i) (g i) (bit i l) (le i l)

  pub marked_le : sum_below n (λ i. mark i * f i) ≤ sum_below n (λ i. mark i * g i)
  marked_le = sum_mono n (λ i. mark i * f i) (λ i. mark i * g i) term_le

  -- with equal sums the terms under a mark are equal
  pub marked_tight : sum_below n (λ i. mark i * f i) ≡ sum_below n (λ i. mark i * g i) → (k : ℕ) → k < n → mark k ≡ 1 → f k ≡ g k
  marked_tight s k l e = bit_eq (mark k) (f k) (g k) e (sum_tight n (λ i. mark i * f i) (λ i. mark i * g i) term_le s k l)

pub some_marked : (n : ℕ) (mark : ℕ → ℕ) → ((i : ℕ) → i < n → mark i ≤ 1) → 1 ≤ sum_below n mark → (k : ℕ) × (k < n) × (mark k ≡ 1)
some_marked n mark bit h = let r = sum_some n mark h in (r.0, r.1, omega (arith, r.2, bit r.0 r.1))

-- where each column of t, with its mark, sums to e: the same with a weight o on each column
pub weighted_columns : (n : ℕ) (t : ℕ → ℕ → ℕ) (mark e o : ℕ → ℕ) → ((j : ℕ) → j < n → sum_below n (λ i. t i j) + mark j ≡ e j)
    → sum_below n (λ j. sum_below n (λ i. t i j * o j)) + sum_below n (λ j. mark j * o j) ≡ sum_below n (λ j. e j * o j)
weighted_columns n t mark e o h =
    sym (sum_add n (λ j. sum_below n (λ i. t i j * o j)) (λ j. mark j * o j))
    ∙ sum_ext n (λ j. sum_below n (λ i. t i j * o j) + mark j * o j) (λ j. e j * o j)
    (λ j l. omega (arith, sum_mul n (λ i. t i j) (o j), ap (λ (x : ℕ). x * o j) (h j l)))

-- a sum over k, as a sum over all i of the terms with p k ≡ i
pub sum_all_is : (n m : ℕ) (p c : ℕ → ℕ) → ((k : ℕ) → k < m → p k < n) → sum_below n (λ i. sum_below m (λ k. is (p k) i * c k)) ≡ sum_below m c
sum_all_is n m p c h =
    sum_swap n m (λ i k. is (p k) i * c k)
    ∙ sum_ext m (λ k. sum_below n (λ i. is (p k) i * c k)) c (λ k l. sum_is_times n (p k) (c k) (h k l))

-- ---- tests of equations
pub all_equal : (n : ℕ) (f g : ℕ → ℕ) → all_below n (λ i. eqb (f i) (g i)) ≡ true → (i : ℕ) → i < n → f i ≡ g i
all_equal n f g h i l = eqb-true (f i) (g i) (all_each n (λ k. eqb (f k) (g k)) h i l)

pub equal_all : (n : ℕ) (f g : ℕ → ℕ) → ((i : ℕ) → i < n → f i ≡ g i) → all_below n (λ i. eqb (f i) (g i)) ≡ true
equal_all n f g h = each_all n (λ k. eqb (f k) (g k)) (λ i l. eq-eqb (f i) (g i) (h i l))
