-- The bytes of a file with given bodies, as paper 01 lays a file out under "Files". Assumes nothing.
use Rattle.std.specs.Prelude.{ℕ, ◌+◌, ◌*◌, ◌^◌, ◌<◌, List, [], ◌++◌, map, get_or, length}
use Rattle.mathematics.specs.Below.{sum_below, join_below}
use Rattle.numbers.specs.Number.{digits}

-- where body i begins, of bodies with these lengths
unfoldable pub start : List ℕ → ℕ → ℕ
start lengths i = 2 + 9 * length lengths + sum_below i (λ j. get_or lengths j 0)

-- the entry of section i, of sections numbered from `first`
unfoldable pub entry_bytes : ℕ → List ℕ → ℕ → List ℕ
entry_bytes first lengths i = digits 1 (first + i) ++ (digits 4 (start lengths i) ++ digits 4 (get_or lengths i 0))

-- kind, count of sections, and the table of contents
unfoldable pub contents_bytes : (kind first : ℕ) → List ℕ → List ℕ
contents_bytes kind first lengths = digits 1 kind ++ (digits 1 (length lengths) ++ join_below (length lengths) (entry_bytes first lengths))

-- the contents, then the bodies
unfoldable pub file_of : (kind first : ℕ) → List (List ℕ) → List ℕ
file_of kind first bodies = contents_bytes kind first (map length bodies) ++ join_below (length bodies) (λ i. get_or bodies i [])

-- what the entries have room for: section numbers of a byte, offsets and lengths of 4
pub record Listable (first : ℕ) (lengths : List ℕ) : Type 0 where
  pub numbers : first + length lengths < 256
  pub offsets : start lengths (length lengths) < 2 ^ 32
