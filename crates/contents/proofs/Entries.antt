-- Entries that were read; the contents' bytes: their lengths, and where each body begins. Assumes nothing.
use Prim.Native.Nat.{ℕ, ◌+◌, ◌*◌, ◌≤◌}
use mathlib.Core.Path.{◌≡◌, refl, ap, ◌∙◌}
use mathlib.Core.List.{List, ◌++◌}
use native.Mathlib.Omega.{arith}
use native.Mathlib.Nat.{mul_comm, add-zero}
use native.Mathlib.Numerals.{add-one}
use lib.ListN.{length, get_or}
use Rattle.mathematics.specs.Below.{sum_below, join_below}
use Rattle.mathematics.proofs.Below.{sum_ext, sum_const, sum_prefix}
use Rattle.mathematics.proofs.Join.{join_length}
use Rattle.numbers.specs.Number.{digits}
use Rattle.contents.specs.Contents.{entry, offset, extent}
use Rattle.contents.specs.declared.Entry.{Entry}
use Rattle.contents.specs.File.{start, entry_bytes}

-- what an entry that was read says of its section
pub offset_read : (s : List ℕ) (i : ℕ) {e : Entry} → e ≡ entry s i → e.offset ≡ offset s i
offset_read s i h = ap (λ (x : Entry). x.offset) h

pub extent_read : (s : List ℕ) (i : ℕ) {e : Entry} → e ≡ entry s i → e.length ≡ extent s i
extent_read s i h = ap (λ (x : Entry). x.length) h

pub entry_length : (first : ℕ) (lengths : List ℕ) (i : ℕ) → length (entry_bytes first lengths i) ≡ 9
unfolding entry_bytes
entry_length first lengths i = refl

pub entries_place : (first : ℕ) (lengths : List ℕ) (n : ℕ) → sum_below n (λ i. length (entry_bytes first lengths i)) ≡ 9 * n
entries_place first lengths n = sum_ext n _ (λ i. 9) (λ i l. entry_length first lengths i) ∙ (sum_const n 9 ∙ mul_comm n 9)

pub entries_length : (first : ℕ) (lengths : List ℕ) (n : ℕ) → length (join_below n (entry_bytes first lengths)) ≡ 9 * n
entries_length first lengths n = join_length n (entry_bytes first lengths) ∙ entries_place first lengths n

-- the first body begins after the contents, each next where the one before ends
pub start_zero : (lengths : List ℕ) → start lengths 0 ≡ 2 + 9 * length lengths
unfolding start
start_zero lengths = add-zero (2 + 9 * length lengths)

pub start_next : (lengths : List ℕ) (i : ℕ) → start lengths (i + 1) ≡ start lengths i + get_or lengths i 0
unfolding start
start_next lengths i = rw add-one (omega arith)

pub start_below : (lengths : List ℕ) (i : ℕ) → i ≤ length lengths → start lengths i ≤ start lengths (length lengths)
unfolding start
start_below lengths i h = omega (arith, sum_prefix (length lengths) (λ j. get_or lengths j 0) i h)

-- an entry's bytes from its number and its offset
pub entry_of : (first : ℕ) (lengths : List ℕ) (i number offset : ℕ) → number ≡ first + i → offset ≡ start lengths i
    → digits 1 number ++ (digits 4 offset ++ digits 4 (get_or lengths i 0)) ≡ entry_bytes first lengths i
unfolding entry_bytes
entry_of first lengths i number offset e f = rw (e, f)
