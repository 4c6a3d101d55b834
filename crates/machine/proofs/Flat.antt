-- Updates of a row and of a table: the value at each place inside and outside, the length, and a table as one flat row. Assumes nothing.
use Prim.Native.Nat.{ℕ, zero, suc, ◌+◌, ◌*◌, ◌/◌, ◌%◌, ◌<◌, ◌≤◌}
use mathlib.Core.Path.{◌≡◌, refl, sym, ◌∙◌}
use mathlib.Core.List.{List}
use native.Mathlib.Omega.{arith}
use native.Mathlib.Decide.{ℕ_discrete}
use native.Mathlib.Nat.{add-zero, add-suc, zero-add, zero-mul, suc-mul}
use lib.ListN.{length, get_or, length-set}
use lib.Seq.{get_or-set_same, get_or-set_other}
use Rattle.mathematics.proofs.Join.{row_of, column_of, table_below}
use Rattle.machine.specs.State.{update_row, update_rows}

-- ---- updates of a row
pub row_ext : (base n : ℕ) (f g : ℕ → ℕ → ℕ) (l : List ℕ) → ((i v : ℕ) → i < n → f i v ≡ g i v) → update_row base n f l ≡ update_row base n g l
row_ext base zero f g l h = refl
row_ext base (suc n) f g l h = rw (row_ext base n f g l (λ i v r. h i v (omega arith)), h n (get_or l (base + n) 0) (omega arith))

pub row_length : (base n : ℕ) (f : ℕ → ℕ → ℕ) (l : List ℕ) → length (update_row base n f l) ≡ length l
row_length base zero f l = refl
row_length base (suc n) f l = length-set (update_row base n f l) (base + n) (f n (get_or l (base + n) 0)) ∙ row_length base n f l

-- past the row
pub row_past : (base n : ℕ) (f : ℕ → ℕ → ℕ) (l : List ℕ) (k : ℕ) → base + n ≤ k → get_or (update_row base n f l) k 0 ≡ get_or l k 0
row_past base zero f l k h = refl
row_past base (suc n) f l k h =
    get_or-set_other (update_row base n f l) (base + n) k (f n (get_or l (base + n) 0)) 0 (λ e. omega arith) ∙ row_past base n f l k (omega arith)

-- in the row
pub row_at : (base n : ℕ) (f : ℕ → ℕ → ℕ) (l : List ℕ) → base + n ≤ length l → (k : ℕ) → k < n
    → get_or (update_row base n f l) (base + k) 0 ≡ f k (get_or l (base + k) 0)
row_at base zero f l h k r = absurd (omega arith)
row_at base (suc n) f l h k r = elim (ℕ_discrete k n) [
  | yes e ↦ rw e (get_or-set_same (update_row base n f l) (base + n) (f n (get_or l (base + n) 0)) 0 (omega (arith, row_length base n f l)))
  | no d ↦
      get_or-set_other (update_row base n f l) (base + n) (base + k) (f n (get_or l (base + n) 0)) 0 (λ e. d (omega arith))
      ∙ row_at base n f l (omega arith) k (omega arith)
]

pub row_first : (n : ℕ) (f : ℕ → ℕ → ℕ) (l : List ℕ) → n ≤ length l → (k : ℕ) → k < n → get_or (update_row 0 n f l) k 0 ≡ f k (get_or l k 0)
row_first n f l h k r = rw zero-add at (row_at 0 n f l (omega arith) k r)

-- a row in two parts
row_add : (m n : ℕ) (f : ℕ → ℕ → ℕ) (l : List ℕ) → update_row 0 (m + n) f l ≡ update_row m n (λ i v. f (m + i) v) (update_row 0 m f l)
row_add m zero f l = rw add-zero
row_add m (suc n) f l = rw (add-suc, zero-add, row_add m n f l, row_past 0 m f l (m + n) (omega arith))

-- ---- updates of a table
pub rows_flat : (m n : ℕ) (f : ℕ → ℕ → ℕ → ℕ) (l : List ℕ) → update_rows m n f l ≡ update_row 0 (m * n) (λ k v. f (k / n) (k % n) v) l
rows_flat zero n f l = rw zero-mul
rows_flat (suc m) n f l =
    let g : ℕ → ℕ → ℕ = λ k. f (k / n) (k % n) in
    rw (suc-mul, row_add (m * n) n g l, rows_flat m n f l)
    (row_ext (m * n) n (f m) (λ i. g (m * n + i)) _ (λ i v h. sym ((λ u. f (row_of m h u) (column_of m h u) v))))

-- ---- the laws of a table, at each row and column
pub rows_length : (m n : ℕ) (f : ℕ → ℕ → ℕ → ℕ) (l : List ℕ) → length (update_rows m n f l) ≡ length l
rows_length m n f l = rw (rows_flat m n f l) (row_length 0 (m * n) (λ k. f (k / n) (k % n)) l)

pub rows_at : (m n : ℕ) (f : ℕ → ℕ → ℕ → ℕ) (l : List ℕ) → m * n ≤ length l → (c i : ℕ) → c < m → i < n
    → get_or (update_rows m n f l) (c * n + i) 0 ≡ f c i (get_or l (c * n + i) 0)
rows_at m n f l h c i p q =
    rw (rows_flat m n f l)
    (row_first (m * n) (λ k. f (k / n) (k % n)) l h (c * n + i) (table_below p q) ∙ (λ u. f (row_of c q u) (column_of c q u) (get_or l (c * n + i) 0)))
