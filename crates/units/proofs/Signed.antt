-- The size of a signed sum and difference. Assumes nothing.
use Rattle.std.proofs.Common.{arith, ℕ, ◌+◌, ◌≤◌, ◌≡◌, ℤ, pos, ◌+ℤ◌, ◌-ℤ◌}
use Rattle.std.specs.Int.Signed.{mag}
use Rattle.std.proofs.lemmas.Int.{ints}

pub mag_sub : (z : ℤ) (n : ℕ) → mag (z -ℤ pos n) ≤ mag z + n
mag_sub z n = grind (arith, ints)

pub mag_add : (z : ℤ) (n : ℕ) → mag (z +ℤ pos n) ≤ mag z + n
mag_add z n = grind (arith, ints)

-- two losses are one
pub lose_lose : (z : ℤ) (a b : ℕ) → z -ℤ pos a -ℤ pos b ≡ z -ℤ pos (a + b)
lose_lose z a b = omega (arith, ints)
