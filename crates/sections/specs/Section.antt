-- The numbers of a section: their ranges, and a table laid out row by row. Assumes nothing.
use Rattle.std.specs.Prelude.{ℕ, ◌+◌, ◌*◌, ◌≤◌, ◌<◌, ◌≡◌, Bool, true, List, length, eqb}
use Rattle.mathematics.specs.Below.{all_below, join_below, within}
use Rattle.numbers.specs.Number.{Width, encode}
use Rattle.contents.specs.Contents.{offset, cell, placed, sized}

-- numbers from, .., from + m - 1 of section i, of k bytes each, are from lo to hi
unfoldable pub in_range : (k : ℕ) → List ℕ → (i from m lo hi : ℕ) → Bool
in_range k s i from m lo hi = all_below m (λ j. within lo hi (cell k s i (from + j)))

-- section i is a table of n by n numbers of k bytes whose diagonal is 0
unfoldable pub diagonal_zero : (k : ℕ) → List ℕ → (i n : ℕ) → Bool
diagonal_zero k s i n = all_below n (λ j. eqb (cell k s i (j * n + j)) 0)

-- section i has room for m numbers of k bytes
pub record Holds (s : List ℕ) (i k m : ℕ) : Type 0 where
  pub width : Width k
  pub listed : 11 + 9 * i ≤ length s
  pub few : i < 256
  pub fits : offset s i + k * m ≤ length s

-- the bytes of a table of m by n numbers of k bytes, row by row
unfoldable pub grid : (k m n : ℕ) → (ℕ → ℕ → ℕ) → List ℕ
grid k m n f = join_below m (λ i. encode k n (f i))

-- the bytes of a table of l by m by n numbers of k bytes, the last index fastest
unfoldable pub cube : (k l m n : ℕ) → (ℕ → ℕ → ℕ → ℕ) → List ℕ
unfolding grid
cube k l m n f = join_below l (λ h. grid k m n (f h))

-- a file whose bodies lie where they should and have these lengths
pub record Laid (s lengths : List ℕ) : Type 0 where
  pub few : length lengths < 256
  pub long : 2 + 9 * length lengths ≤ length s
  pub lies : placed s (length lengths) ≡ true
  pub lens : sized s lengths ≡ true
