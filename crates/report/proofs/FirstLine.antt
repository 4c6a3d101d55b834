-- The first line: its pieces, and its length. Assumes nothing.
use Rattle.sections.specs.Rows.{refusal_number}
use Rattle.sections.specs.declared.Refusal.{Refusal}
use Prim.Native.Nat.{◌+◌, ◌≤◌}
use mathlib.Core.Path.{◌≡◌, refl}
use mathlib.Core.List.{[], ◌∷◌, ◌++◌}
use native.Mathlib.Omega.{arith}
use lib.IntN.{ℤ, pos, negsuc}
use lib.ListN.{length, length-append}
use Rattle.units.specs.declared.Profit.{Profit}
use Rattle.std.specs.Prelude.{Err, Ok}
use Rattle.calls.specs.Check.{Check}
use Rattle.report.specs.Text.{decimal, signed_decimal}
use Rattle.report.specs.Report.{first_line}
use Rattle.report.proofs.Decimal.{decimal_most}

pub signed_most : (z : ℤ) → length (signed_decimal z) ≤ 21
unfolding signed_decimal
signed_most (pos n) = omega (arith, decimal_most n)
signed_most (negsuc n) = omega (arith, decimal_most (n + 1))

pub passed_line : (q : Profit) → (112 ∷ 97 ∷ 115 ∷ 115 ∷ 101 ∷ 100 ∷ 32 ∷ []) ++ signed_decimal q.0 ++ (10 ∷ []) ≡ first_line (Ok q)
unfolding first_line
passed_line q = refl

pub refused_line : (n : Refusal) → (114 ∷ 101 ∷ 102 ∷ 117 ∷ 115 ∷ 101 ∷ 100 ∷ 32 ∷ []) ++ (decimal (refusal_number n) ++ (10 ∷ [])) ≡ first_line (Err n)
unfolding first_line
refused_line n = refl

pub first_most : (k : Check) → length (first_line k) ≤ 29
unfolding first_line
first_most (Ok q) = omega (arith, length-append (signed_decimal q.0) (10 ∷ []), signed_most q.0)
first_most (Err n) = omega (arith, length-append (decimal (refusal_number n)) (10 ∷ []), decimal_most (refusal_number n))
