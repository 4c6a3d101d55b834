-- Numbers as text, in ASCII. Assumes nothing.
use Rattle.std.specs.Prelude.{ℕ, zero, suc, ◌+◌, ◌/◌, ◌%◌, cond, List, [], ◌∷◌, ◌++◌, ltb, ℤ, pos, negsuc}

-- decimal digits without leading zeros, of a number that has at most so many
abbrev pub decimal_of : ℕ → ℕ → List ℕ
decimal_of zero n = []
decimal_of (suc most) n = cond (ltb n 10) ((48 + n) ∷ []) (decimal_of most (n / 10) ++ ((48 + n % 10) ∷ []))

-- a number below 10 ^ 20
unfoldable pub decimal : ℕ → List ℕ
decimal n = decimal_of 20 n

-- "with a minus if below 0" (`negsuc n` is - n - 1)
unfoldable pub signed_decimal : ℤ → List ℕ
signed_decimal (pos n) = decimal n
signed_decimal (negsuc n) = 45 ∷ decimal (n + 1)

-- "One space stands between, and byte 10 ends every line."
abbrev pub line : ℕ → List ℕ → List ℕ
line n [] = decimal n ++ (10 ∷ [])
line n (m ∷ ms) = decimal n ++ (32 ∷ line m ms)
