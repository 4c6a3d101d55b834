-- The lengths of layouts, as the tables in them have theirs. Assumes nothing.
use Prim.Native.Nat.{ℕ, ◌*◌}
use mathlib.Core.Path.{◌≡◌, sym, ap}
use native.Mathlib.Nat.{one-mul, mul_assoc}
use Rattle.sections.specs.Layout.{layout, length_of}

-- one row of numbers
pub one_row : (k n : ℕ) → k * n ≡ length_of (layout k 1 n)
one_row k n = ap (λ (x : ℕ). k * x) (sym (one-mul n))

-- rows that are tables themselves
pub table_rows : (k l m n : ℕ) → k * (l * m * n) ≡ length_of (layout k l (m * n))
table_rows k l m n = ap (λ (x : ℕ). k * x) (mul_assoc l m n)
