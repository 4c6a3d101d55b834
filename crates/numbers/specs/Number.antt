-- Numbers in little-endian order, of any width: read from a list of bytes, and stored. Assumes nothing.
use Rattle.std.specs.Prelude.{ℕ, zero, suc, ◌+◌, ◌*◌, ◌/◌, ◌%◌, ◌<◌, ◌≡◌, ◌⊎◌, List, [], ◌∷◌, ◌++◌, length, get_or, take, drop}
use Rattle.mathematics.specs.Below.{join_below}

-- each element is a byte
abbrev pub Bytes : List ℕ → Type 0
Bytes s = (i : ℕ) → get_or s i 0 < 256

-- the widths that numbers have in the files
abbrev pub Width : ℕ → Type 0
Width k = (k ≡ 1) ⊎ ((k ≡ 2) ⊎ ((k ≡ 4) ⊎ (k ≡ 8)))

-- the number of the k bytes of s from `at` on, the least byte first
abbrev pub number_at : ℕ → List ℕ → ℕ → ℕ
number_at zero s at = 0
number_at (suc k) s at = get_or s at 0 + 256 * number_at k s (at + 1)

-- the k bytes of v, the least first
abbrev pub digits : ℕ → ℕ → List ℕ
digits zero v = []
digits (suc k) v = (v % 256) ∷ digits k (v / 256)

-- m numbers of k bytes, end to end: f 0, .., f (m - 1)
abbrev pub encode : ℕ → ℕ → (ℕ → ℕ) → List ℕ
encode k m f = join_below m (λ i. digits k (f i))

-- the n elements of s from `at` on
abbrev pub part : List ℕ → ℕ → ℕ → List ℕ
part s at n = take n (drop at s)

-- s with b in the place of as many elements from `at` on
abbrev pub store : List ℕ → ℕ → List ℕ → List ℕ
store s at b = take at s ++ b ++ drop (at + length b) s
