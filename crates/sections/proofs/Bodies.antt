-- The bytes of a table: how many there are, and that they follow from its numbers. Assumes nothing.
use Prim.Native.Nat.{ℕ, ◌+◌, ◌*◌, ◌-◌, ◌≤◌, ◌<◌}
use mathlib.Core.Path.{◌≡◌, ap, ◌∙◌, sym}
use mathlib.Core.List.{List}
use native.Mathlib.Omega.{arith}
use native.Mathlib.Nat.{mul_comm, mul_left_comm, mul_assoc}
use lib.ListN.{length}
use borrow.Rule.Slice.PartMut.{mid_of, put_mid}
use Rattle.mathematics.specs.Below.{join_below}
use Rattle.mathematics.proofs.Join.{even_length, join_ext}
use Rattle.numbers.specs.Number.{Bytes, encode, store}
use Rattle.numbers.proofs.Number.{encode_length, encode_ext, room}
use Rattle.numbers.proofs.Store.{part_store, store_join}
use Rattle.numbers.proofs.ByteLists.{bytes_join, bytes_encode}
use Rattle.sections.specs.Section.{grid, cube}

pub grid_length : (k m n : ℕ) (f : ℕ → ℕ → ℕ) → length (grid k m n f) ≡ k * (m * n)
unfolding grid
grid_length k m n f = even_length m (k * n) _ (λ i. encode_length k n (f i)) ∙ mul_left_comm m k n

pub cube_length : (k l m n : ℕ) (f : ℕ → ℕ → ℕ → ℕ) → length (cube k l m n f) ≡ k * (l * m * n)
unfolding cube
cube_length k l m n f =
    even_length l (k * (m * n)) _ (λ h. grid_length k m n (f h)) ∙ (mul_left_comm l k (m * n) ∙ ap (λ (x : ℕ). k * x) (sym (mul_assoc l m n)))

-- tables with the same numbers have the same bytes
pub grid_ext : (k m n : ℕ) (f g : ℕ → ℕ → ℕ) → ((i j : ℕ) → i < m → j < n → f i j ≡ g i j) → grid k m n f ≡ grid k m n g
unfolding grid
grid_ext k m n f g h = join_ext m _ _ (λ i p. encode_ext k n (f i) (g i) (λ j q. h i j p q))

pub cube_ext : (k l m n : ℕ) (f g : ℕ → ℕ → ℕ → ℕ) → ((h i j : ℕ) → h < l → i < m → j < n → f h i j ≡ g h i j)
    → cube k l m n f ≡ cube k l m n g
unfolding cube
cube_ext k l m n f g e = join_ext l _ _ (λ h o. grid_ext k m n (f h) (g h) (λ i j p q. e h i j o p q))

pub grid_bytes : (k m n : ℕ) (f : ℕ → ℕ → ℕ) → Bytes (grid k m n f)
unfolding grid
grid_bytes k m n f = bytes_join m (λ i. encode k n (f i)) (λ i. bytes_encode k n (f i))

pub cube_bytes : (k l m n : ℕ) (f : ℕ → ℕ → ℕ → ℕ) → Bytes (cube k l m n f)
unfolding cube
cube_bytes k l m n f = bytes_join l (λ h. grid k m n (f h)) (λ h. grid_bytes k m n (f h))

-- ---- a table stored row by row
-- rows of one size
pub rows_length : (k n r : ℕ) (g : ℕ → ℕ → ℕ) → length (join_below r (λ q. encode k n (g q))) ≡ r * (k * n)
rows_length k n r g = even_length r (k * n) (λ q. encode k n (g q)) (λ q. encode_length k n (g q))

-- the next row has room
pub row_room : (k n : ℕ) {m r size total : ℕ} → size ≡ k * n → r < m → k * (m * n) ≤ total → size * r + k * n ≤ total
row_room k n {m} {r} e l h = omega (arith, room (k * n) l, mul_assoc k n m, mul_comm n m, ap (λ (x : ℕ). x * r) e, h)

-- and is stored in the stretch that is lent
pub row_stored : (k n : ℕ) (g : ℕ → ℕ → ℕ) (s out new : List ℕ) (r p : ℕ) → out ≡ store s 0 (join_below r (λ q. encode k n (g q)))
    → p ≡ k * n * r → p ≤ length out → new ≡ store (mid_of p (length out - p) out) 0 (encode k n (g r))
    → put_mid p (length out - p) out new ≡ store s 0 (join_below (r + 1) (λ q. encode k n (g q)))
row_stored k n g s out new r p e d l h =
    let bytes : ℕ → List ℕ = λ q. encode k n (g q) in
    ap (put_mid p (length out - p) out) h
    ∙ (part_store out p (bytes r) l
    ∙ (ap (λ (x : List ℕ). store x p (bytes r)) e ∙ store_join r bytes s p (rows_length k n r g ∙ (mul_comm r (k * n) ∙ sym d))))

-- the same of rows whose size is known
pub sized_row_stored : (k n : ℕ) (g : ℕ → ℕ → ℕ) (s out new : List ℕ) (r size : ℕ) → size ≡ k * n
    → out ≡ store s 0 (join_below r (λ q. encode k n (g q))) → size * r ≤ length out
    → new ≡ store (mid_of (size * r) (length out - size * r) out) 0 (encode k n (g r))
    → put_mid (size * r) (length out - size * r) out new ≡ store s 0 (join_below (r + 1) (λ q. encode k n (g q)))
sized_row_stored k n g s out new r size d e l h = row_stored k n g s out new r (size * r) e (ap (λ (x : ℕ). x * r) d) l h
