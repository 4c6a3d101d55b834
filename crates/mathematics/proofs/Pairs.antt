-- A place in a table of m rows of n numbers: which row, and which column. Assumes nothing.
use Prim.Native.Nat.{ℕ, zero, suc, ◌+◌, ◌*◌, ◌/◌, ◌%◌, ◌<◌}
use mathlib.Core.Path.{◌≡◌, ap, ◌∙◌}
use native.Mathlib.Omega.{arith}
use native.Mathlib.Nat.{div-add-mod', div-lt_iff_lt-mul, mod-lt, mul-zero}
use Rattle.mathematics.proofs.Join.{row_of, column_of}

-- place k of the table
pub record Pair (m n k : ℕ) : Type 0 where
  pub row : k / n < m
  pub column : k % n < n
  pub number : k / n * n + k % n ≡ k

pub pair_of : (m n k : ℕ) → k < m * n → Pair m n k
pair_of m zero k h = absurd (omega (arith, mul-zero m))
pair_of m (suc n) k h =
    record { row = (div-lt_iff_lt-mul {k = suc n} {x = k} {y = m} (omega arith)).1 h; column = mod-lt k (omega arith); number = div-add-mod' k (suc n) }

-- a table's number at the place of row i, column j
pub table_at : {A : Type 0} (table : ℕ → ℕ → A) {k i j n : ℕ} → k ≡ i * n + j → j < n → table (k / n) (k % n) ≡ table i j
table_at table {i = i} {n = n} e l =
    λ u. table ((ap (λ (q : ℕ). q / n) e ∙ row_of i l) u) ((ap (λ (q : ℕ). q % n) e ∙ column_of i l) u)
