-- Signed numbers of 8 bytes, in two's complement. Assumes nothing.
use Rattle.std.specs.Prelude.{ℕ, suc, ◌-◌, ◌^◌, cond, ltb, ℤ, pos, negsuc}

-- the signed number that the number v of 8 bytes stands for (`negsuc n` is - n - 1)
unfoldable pub signed_of : ℕ → ℤ
signed_of v = cond (ltb v (2 ^ 63)) (pos v) (negsuc (2 ^ 64 - suc v))

-- the number of 8 bytes that stands for a signed number
unfoldable pub unsigned_of : ℤ → ℕ
unsigned_of (pos n) = n
unsigned_of (negsuc n) = 2 ^ 64 - suc n
