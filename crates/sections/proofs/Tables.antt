-- Tables in a section: the body of a section is the encoding of its numbers, and each number of a table is read back. Assumes nothing.
use Prim.Native.Nat.{ℕ, ◌+◌, ◌*◌, ◌/◌, ◌%◌, ◌^◌, ◌≤◌, ◌<◌}
use mathlib.Core.Path.{◌≡◌, sym, ap, ◌∙◌}
use mathlib.Core.Bool.{true}
use mathlib.Core.List.{List}
use native.Mathlib.Nat.{zero-add}
use Rattle.mathematics.specs.Below.{join_below, within}
use Rattle.mathematics.proofs.Below.{all_each, within_at}
use Rattle.mathematics.proofs.Join.{row_of, column_of, table_below, join_rows, join_table}
use Rattle.numbers.specs.Number.{Bytes, digits, encode, part}
use Rattle.numbers.proofs.Number.{encode_numbers, number_encode}
use Rattle.contents.specs.Contents.{offset, extent, cell}
use Rattle.sections.specs.Section.{in_range, Holds, grid, cube}

-- ---- from flat numbers to a table's
pub grid_flat : (k m n : ℕ) (f : ℕ → ℕ) → grid k m n (λ i j. f (i * n + j)) ≡ encode k (m * n) f
unfolding grid
grid_flat k m n f = join_rows m n (λ q. digits k (f q))

pub cube_flat : (k l m n : ℕ) (f : ℕ → ℕ) → cube k l m n (λ h i j. f ((h * m + i) * n + j)) ≡ encode k (l * m * n) f
unfolding cube grid
cube_flat k l m n f = join_rows l m (λ q. join_below n (λ j. digits k (f (q * n + j)))) ∙ join_rows (l * m) n (λ q. digits k (f q))

-- ---- and back
pub grid_encode : (k m n : ℕ) (f : ℕ → ℕ → ℕ) → grid k m n f ≡ encode k (m * n) (λ q. f (q / n) (q % n))
unfolding grid
grid_encode k m n f = join_table m n (λ i j. digits k (f i j))

cube_encode : (k l m n : ℕ) (f : ℕ → ℕ → ℕ → ℕ) → cube k l m n f ≡ encode k (l * m * n) (λ q. f (q / n / m) (q / n % m) (q % n))
unfolding cube grid
cube_encode k l m n f = join_table l m (λ h i. encode k n (f h i)) ∙ join_table (l * m) n (λ q j. digits k (f (q / m) (q % m) j))

-- by row and column of the first two indices
pub cube_rows : (k l m n : ℕ) (t : ℕ → ℕ → ℕ → ℕ) → cube k l m n t ≡ join_below (l * m) (λ r. encode k n (t (r / m) (r % m)))
unfolding cube grid
cube_rows k l m n t = join_table l m (λ h i. encode k n (t h i))

pub cube_below : {h i j l m n : ℕ} → h < l → i < m → j < n → (h * m + i) * n + j < l * m * n
cube_below a b d = table_below (table_below a b) d

-- ---- a section's body is the encoding of its numbers
pub section_is : (k m : ℕ) (s : List ℕ) (i : ℕ) → Bytes s → Holds s i k m → extent s i ≡ k * m
    → encode k m (cell k s i) ≡ part s (offset s i) (extent s i)
unfolding cell
section_is k m s i b h e = encode_numbers k m s (offset s i) b h.fits ∙ ap (part s (offset s i)) (sym e)

module _ (k : ℕ) (s : List ℕ) (i : ℕ) where
  -- each number of a body is read back
  pub section_at : (m : ℕ) (f : ℕ → ℕ) → extent s i ≡ k * m → part s (offset s i) (extent s i) ≡ encode k m f
      → (j : ℕ) → j < m → f j < 256 ^ k → cell k s i j ≡ f j
  unfolding cell
  section_at m f e body j l h = number_encode k m s (offset s i) f (ap (part s (offset s i)) (sym e) ∙ body) j l h

  pub grid_at : (m n : ℕ) (f : ℕ → ℕ → ℕ) → extent s i ≡ k * (m * n) → part s (offset s i) (extent s i) ≡ grid k m n f
      → (a b : ℕ) → a < m → b < n → f a b < 256 ^ k → cell k s i (a * n + b) ≡ f a b
  grid_at m n f e body a b l h v =
      let q : f ((a * n + b) / n) ((a * n + b) % n) ≡ f a b = λ u. f (row_of a h u) (column_of a h u) in
      section_at (m * n) (λ j. f (j / n) (j % n)) e (body ∙ grid_encode k m n f) (a * n + b) (table_below l h) (rw q v) ∙ q

  pub cube_at : (l m n : ℕ) (f : ℕ → ℕ → ℕ → ℕ) → extent s i ≡ k * (l * m * n) → part s (offset s i) (extent s i) ≡ cube k l m n f
      → (a b d : ℕ) → a < l → b < m → d < n → f a b d < 256 ^ k → cell k s i ((a * m + b) * n + d) ≡ f a b d
  cube_at l m n f e body a b d p h g v =
      let r = (a * m + b) * n + d in
      let row = row_of (a * m + b) g in
      let q : f (r / n / m) (r / n % m) (r % n) ≡ f a b d =
      λ u. f ((ap (λ (x : ℕ). x / m) row ∙ row_of a h) u) ((ap (λ (x : ℕ). x % m) row ∙ column_of a h) u) (column_of (a * m + b) g u) in
      section_at (l * m * n) (λ j. f (j / n / m) (j / n % m) (j % n)) e (body ∙ cube_encode k l m n f) r (cube_below p h g) (rw q v) ∙ q

  -- ---- ranges
  pub range_at : (from m lo hi : ℕ) → in_range k s i from m lo hi ≡ true
      → (j : ℕ) → j < m → (lo ≤ cell k s i (from + j)) × (cell k s i (from + j) ≤ hi)
  unfolding in_range
  range_at from m lo hi h j l =
      within_at lo hi (cell k s i (from + j)) (all_each m (λ q. within lo hi (cell k s i (from + q))) h j l)

  pub range_first : (m lo hi : ℕ) → in_range k s i 0 m lo hi ≡ true → (j : ℕ) → j < m → (lo ≤ cell k s i j) × (cell k s i j ≤ hi)
  range_first m lo hi h j l = rw zero-add at (range_at 0 m lo hi h j l)
