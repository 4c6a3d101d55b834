-- A file's table of contents, as paper 01 has it under "Files": one kind byte, one byte with the count of sections, then the entries.
-- Sections are named by their place in the contents, from 0. Assumes nothing.
use Rattle.std.specs.Prelude.{ℕ, zero, suc, ◌+◌, ◌*◌, ◌≤◌, ◌<◌, Bool, ◌&&◌, List, get_or, length, leb, eqb}
use Rattle.mathematics.specs.Below.{all_below}
use Rattle.numbers.specs.Number.{number_at, Width}
use Rattle.contents.specs.declared.Entry.{Entry}

-- an entry is 9 bytes: section number (1), offset from the file's start (4), length (4)
unfoldable pub entry_at : List ℕ → ℕ → Entry
entry_at s at = record { number = get_or s at 0; offset = number_at 4 s (at + 1); length = number_at 4 s (at + 5) }

-- the entry in place i
unfoldable pub entry : List ℕ → ℕ → Entry
entry s i = entry_at s (2 + 9 * i)

abbrev pub offset : List ℕ → ℕ → ℕ
offset s i = (entry s i).offset

abbrev pub extent : List ℕ → ℕ → ℕ
extent s i = (entry s i).length

-- number j of those of k bytes that section i holds
unfoldable pub cell : ℕ → List ℕ → ℕ → ℕ → ℕ
cell k s i j = number_at k s (offset s i + k * j)

-- kind, section count and section numbers right
abbrev pub numbers_right : List ℕ → (kind first count : ℕ) → Bool
numbers_right s kind first count =
    eqb (get_or s 0 0) kind && (eqb (get_or s 1 0) count && all_below count (λ i. eqb (entry s i).number (first + i)))

-- rows 1, 11, 21: not too short for its contents, and these numbers right
unfoldable pub headed : List ℕ → (kind first count : ℕ) → Bool
headed s kind first count = leb (2 + 9 * count) (length s) && numbers_right s kind first count

-- where the body in place i begins: the first right after the contents, each next where the one before ends
abbrev pub edge : List ℕ → ℕ → ℕ → ℕ
edge s count zero = 2 + 9 * count
edge s count (suc i) = offset s i + extent s i

-- rows 2, 12, 22: no body is misplaced, and the last ends the file
unfoldable pub placed : List ℕ → ℕ → Bool
placed s count = all_below count (λ i. eqb (offset s i) (edge s count i)) && eqb (edge s count count) (length s)

-- rows 4, 13, 23: each body has its length
unfoldable pub sized : List ℕ → List ℕ → Bool
sized s lengths = all_below (length lengths) (λ i. eqb (extent s i) (get_or lengths i 0))

-- number j of those of k bytes that section i holds lies within the file
pub record Inside (s : List ℕ) (i k j : ℕ) : Type 0 where
  pub width : Width k
  pub listed : 11 + 9 * i ≤ length s
  pub few : i < 256
  pub within : offset s i + k * j + k ≤ length s
