-- Sums over rows and columns. Assumes nothing.
use Prim.Native.Nat.{ℕ, ◌+◌, ◌*◌, ◌<◌, ◌≤◌}
use mathlib.Core.Path.{◌≡◌, ◌∙◌}
use native.Mathlib.Omega.{arith}
use native.Mathlib.Nat.{mul_comm}
use native.Mathlib.Decide.{ℕ_discrete}
use Rattle.mathematics.specs.Below.{sum_below}
use Rattle.mathematics.proofs.Below.{sum_ext, sum_zero, sum_add, sum_mul, sum_only, sum_unique, term_le_sum}
use Rattle.mathematics.proofs.Tables.{sum_few}

abbrev pub sum_grid : (n m : ℕ) → (ℕ → ℕ → ℕ) → ℕ
sum_grid n m f = sum_below n (λ i. sum_below m (λ j. f i j))

module _ (n m : ℕ) where
  pub grid_ext : (f g : ℕ → ℕ → ℕ) → ((i j : ℕ) → i < n → j < m → f i j ≡ g i j) → sum_grid n m f ≡ sum_grid n m g
  grid_ext f g h = sum_ext n (λ i. sum_below m (f i)) (λ i. sum_below m (g i)) (λ i l. sum_ext m (f i) (g i) (λ j k. h i j l k))

  pub grid_add : (f g : ℕ → ℕ → ℕ) → sum_grid n m (λ i j. f i j + g i j) ≡ sum_grid n m f + sum_grid n m g
  grid_add f g =
      sum_ext n (λ i. sum_below m (λ j. f i j + g i j)) (λ i. sum_below m (f i) + sum_below m (g i)) (λ i l. sum_add m (f i) (g i))
      ∙ sum_add n (λ i. sum_below m (f i)) (λ i. sum_below m (g i))

  pub grid_zero : (f : ℕ → ℕ → ℕ) → ((i j : ℕ) → i < n → j < m → f i j ≡ 0) → sum_grid n m f ≡ 0
  grid_zero f h = sum_zero n (λ i. sum_below m (f i)) (λ i l. sum_zero m (f i) (λ j k. h i j l k))

-- ---- the most that a sum can be
pub grid_most : {n m p q : ℕ} (b : ℕ) (f : ℕ → ℕ → ℕ) → n ≤ p → m ≤ q → ((i j : ℕ) → i < n → j < m → f i j ≤ b) → sum_grid n m f ≤ p * (q * b)
grid_most {m = m} {q = q} b f h k l = sum_few (q * b) (λ i. sum_below m (f i)) h (λ i a. sum_few b (f i) k (λ j c. l i j a c))

-- ---- a square of marks, and what stands in it: z i j ≡ from i * to j
module _ (N : ℕ) (to from : ℕ → ℕ) (z : ℕ → ℕ → ℕ) where
  -- its sums
  pub columns_sum : ((i j : ℕ) → i < N → j < N → z i j ≡ from i * to j) → (j : ℕ) → j < N → sum_below N (λ i. z i j) ≡ to j * sum_below N from
  columns_sum h j m = sum_ext N (λ i. z i j) (λ i. from i * to j) (λ i l. h i j l m) ∙ (sum_mul N from (to j) ∙ mul_comm (sum_below N from) (to j))

  pub rows_sum : ((i j : ℕ) → i < N → j < N → z i j ≡ from i * to j) → (i : ℕ) → i < N → sum_below N (λ j. z i j) ≡ from i * sum_below N to
  rows_sum h i l =
      sum_ext N (λ j. z i j) (λ j. to j * from i) (λ j m. h i j l m ∙ mul_comm (from i) (to j))
      ∙ (sum_mul N to (from i) ∙ mul_comm (sum_below N to) (from i))

  -- with one mark each at most, the sums say it
  pub crossed : sum_below N to ≤ 1 → sum_below N from ≤ 1
      → ((j : ℕ) → j < N → sum_below N (λ i. z i j) ≡ to j * sum_below N from) → ((i : ℕ) → i < N → sum_below N (λ j. z i j) ≡ from i * sum_below N to)
      → (i j : ℕ) → i < N → j < N → z i j ≡ from i * to j
  crossed a b into out i j k m = elim (ℕ_discrete (from i) 0) [
    | yes e ↦ rw e (omega (arith, rw e at (out i k), term_le_sum N (λ u. z i u) j m))
    | no d ↦ elim (ℕ_discrete (to j) 0) [
      | yes e ↦ rw e (omega (arith, rw e at (into j m), term_le_sum N (λ u. z u j) i k))
      | no g ↦
          (let one : to j ≡ 1 = omega (arith, term_le_sum N to j m) in
          let all : sum_below N to ≡ 1 = omega (arith, term_le_sum N to j m) in
          rw one (omega (
            arith,
            rw all at (out i k),
            sum_only N (λ u. z i u) j m (λ u n q.
                elim (ℕ_discrete (to u) 0) [
                  | yes e ↦ omega (arith, rw e at (into u n), term_le_sum N (λ v. z v u) i k)
                  | no e ↦ absurd (q (sum_unique N to a u j n m (omega arith) (omega arith)))
                ]),
          )))
    ]
  ]
