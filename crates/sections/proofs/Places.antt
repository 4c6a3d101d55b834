-- Where the numbers of a section stand. Assumes nothing.
use Prim.Native.Nat.{ℕ, ◌+◌, ◌*◌, ◌≤◌, ◌<◌}
use native.Mathlib.Omega.{arith}
use native.Mathlib.Nat.{mul-le-mul}
use Rattle.mathematics.proofs.Join.{table_below}
use Rattle.sections.specs.declared.Shape.{Shape}

-- a shape whose counts have a byte each
abbrev pub Small : Shape → Type 0
Small f = (f.products < 256) × (f.customers < 256) × (f.weeks < 256)

-- a number below 256 is at most 255
pub byte_most : {a : ℕ} → a < 256 → a ≤ 255
byte_most h = omega arith

-- where a number stands in a table whose sides are bounded
pub table_small : {i j m n : ℕ} (a b : ℕ) → i < m → j < n → m ≤ a → n ≤ b → i * n + j < a * b
table_small {i} {j} {m} {n} a b h k p q = omega (arith, table_below h k, mul-le-mul p q)
