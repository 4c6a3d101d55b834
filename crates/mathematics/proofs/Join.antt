-- Laws of lists joined end to end: their length, the place of each in the whole, and a list as the join of its parts. Assumes nothing.
use Prim.Native.Nat.{ℕ, zero, suc, ◌+◌, ◌*◌, ◌/◌, ◌%◌, ◌<◌}
use mathlib.Core.Path.{◌≡◌, refl, sym, ap, ◌∙◌}
use mathlib.Core.List.{List, ◌++◌, append_assoc, append-nil}
use native.Mathlib.Omega.{arith}
use native.Mathlib.Decide.{ℕ_discrete}
use native.Mathlib.Nat.{add-zero, add-suc, suc-mul, mul-le-mul_right, mul-add-div_right, mul-add-mod_self_right, div-eq_of_lt, mod-eq_of_lt}
use lib.ListN.{length, take, drop, length-append}
use lib.Seq.{take-add, drop-drop, take-append_seam, drop_at}
use Rattle.mathematics.specs.Below.{sum_below, join_below}
use Rattle.mathematics.proofs.Below.{sum_ext, sum_const}

-- row and column of a table's number, where it stands at i * n + j
pub row_of : (i : ℕ) {j n : ℕ} → j < n → (i * n + j) / n ≡ i
row_of i {j} {n} h = rw (mul-add-div_right {m = n} (omega arith) i j, div-eq_of_lt h, add-zero)

pub column_of : (i : ℕ) {j n : ℕ} → j < n → (i * n + j) % n ≡ j
column_of i {j} {n} h = rw (mul-add-mod_self_right i n j, mod-eq_of_lt h)

pub table_below : {i j m n : ℕ} → i < m → j < n → i * n + j < m * n
table_below {i} {j} {m} {n} h k = omega (arith, suc-mul i n, mul-le-mul_right n h)

module _ {A : Type 0} where
  pub join_ext : (n : ℕ) (f g : ℕ → List A) → ((i : ℕ) → i < n → f i ≡ g i) → join_below n f ≡ join_below n g
  join_ext zero f g h = refl
  join_ext (suc n) f g h =
      let a : join_below n f ≡ join_below n g = join_ext n f g (λ i l. h i (omega arith)) in
      let b : f n ≡ g n = h n (omega arith) in
      cc

  pub join_length : (n : ℕ) (f : ℕ → List A) → length (join_below n f) ≡ sum_below n (λ i. length (f i))
  join_length zero f = refl
  join_length (suc n) f = length-append (join_below n f) (f n) ∙ ap (λ (x : ℕ). x + length (f n)) (join_length n f)

  -- the parts of a list, cut one after the other from `base` on, join to the whole of what was cut
  pub join_cuts : (n : ℕ) (len : ℕ → ℕ) (s : List A) (base : ℕ)
      → join_below n (λ i. take (len i) (drop (base + sum_below i len) s)) ≡ take (sum_below n len) (drop base s)
  join_cuts zero len s base = refl
  join_cuts (suc n) len s base =
      rw (join_cuts n len s base, take-add (sum_below n len) (len n) (drop base s), drop-drop)

  -- each of the lists stands where those before it end
  pub join_part : (n : ℕ) (f : ℕ → List A) (rest : List A) (k : ℕ) → k < n
      → take (length (f k)) (drop (sum_below k (λ i. length (f i))) (join_below n f ++ rest)) ≡ f k
  join_part zero f rest k l = absurd (omega arith)
  join_part (suc n) f rest k l =
      rw (append_assoc (join_below n f) (f n) rest)
      (elim (ℕ_discrete k n) [
        | yes e ↦ rw e (rw (drop_at (join_below n f) (f n ++ rest) (sum_below n (λ i. length (f i))) (join_length n f)) (take-append_seam (f n) rest))
        | no d ↦ join_part n f (f n ++ rest) k (omega arith)
      ])

  pub join_add : (m n : ℕ) (f : ℕ → List A) → join_below (m + n) f ≡ join_below m f ++ join_below n (λ j. f (m + j))
  join_add m zero f = rw (add-zero, append-nil)
  join_add m (suc n) f = rw (add-suc, ← append_assoc, join_add m n f)

  -- the first of lists joined, apart
  pub join_first : (n : ℕ) (f : ℕ → List A) → join_below (suc n) f ≡ f 0 ++ join_below n (λ k. f (suc k))
  join_first zero f = sym (append-nil (f 0))
  join_first (suc n) f = rw (join_first n f, append_assoc (f 0) (join_below n (λ k. f (suc k))) (f (suc n)))

  -- n lists of one length
  pub even_length : (n size : ℕ) (f : ℕ → List A) → ((i : ℕ) → length (f i) ≡ size) → length (join_below n f) ≡ n * size
  even_length n size f h = join_length n f ∙ (sum_ext n _ (λ i. size) (λ i l. h i) ∙ sum_const n size)

  -- runs of lists, one run after the other
  pub join_runs : (m : ℕ) (count : ℕ → ℕ) (f : ℕ → List A)
      → join_below m (λ w. join_below (count w) (λ k. f (sum_below w count + k))) ≡ join_below (sum_below m count) f
  join_runs zero count f = refl
  join_runs (suc m) count f = rw (join_runs m count f, join_add (sum_below m count) (count m) f)

  -- a table row by row
  pub join_rows : (m n : ℕ) (f : ℕ → List A) → join_below m (λ i. join_below n (λ j. f (i * n + j))) ≡ join_below (m * n) f
  join_rows m n f =
      join_ext m _ _ (λ i l. ap (λ (x : ℕ). join_below n (λ j. f (x + j))) (sym (sum_const i n)))
      ∙ (join_runs m (λ i. n) f ∙ ap (λ (x : ℕ). join_below x f) (sum_const m n))

  -- the same, where each row's lists are given by row and column
  pub join_table : (m n : ℕ) (f : ℕ → ℕ → List A) → join_below m (λ i. join_below n (f i)) ≡ join_below (m * n) (λ q. f (q / n) (q % n))
  join_table m n f =
      join_ext m _ _ (λ i l. join_ext n _ _ (λ j k. sym ((λ u. f (row_of i k u) (column_of i k u)))))
      ∙ join_rows m n (λ q. f (q / n) (q % n))
