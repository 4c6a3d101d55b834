-- A number of 64 bits as an argument names it: decimal digits alone. Assumes nothing.
use Rattle.std.specs.Prelude.{ℕ, ◌+◌, ◌*◌, ◌-◌, ◌^◌, ◌&&◌, cond, List, [], ◌∷◌, leb, ltb, eqb, length}
use Rattle.std.specs.Prelude.{Option, None, Some}

-- a number with one more digit, a byte from 48 to 57
unfoldable pub with_digit : (n digit : ℕ) → Option ℕ
with_digit n digit =
    cond (leb 48 digit && leb digit 57 && ltb (n * 10 + (digit - 48)) (2 ^ 64)) (Some (n * 10 + (digit - 48))) None

-- one digit after the other
abbrev pub and_digits : Option ℕ → List ℕ → Option ℕ
and_digits r [] = r
and_digits (Some n) (b ∷ bs) = and_digits (with_digit n b) bs
and_digits None (b ∷ bs) = None

-- at least one
unfoldable pub numeral_of : List ℕ → Option ℕ
numeral_of text = cond (eqb (length text) 0) None (and_digits (Some 0) text)
