-- Signed numbers as text: the sign, then the digits. Assumes nothing.
use mathlib.Core.Path.{◌≡◌, refl}
use mathlib.Core.Bool.{true, false}
use mathlib.Core.List.{List, [], ◌∷◌, ◌++◌}
use native.Mathlib.Omega.{arith}
use native.Mathlib.Numerals.{add-one}
use Prim.Native.Nat.{ℕ}
use borrow.Author.Tests.{ltb-true}
use lib.IntN.{ℤ, pos, negsuc, nat_abs}
use lib.Signed.{lt_z}
use Rattle.report.specs.Text.{decimal, signed_decimal}

abbrev pub sign : ℤ → List ℕ
sign (pos n) = []
sign (negsuc n) = 45 ∷ []

pub signed_text : (z : ℤ) → signed_decimal z ≡ sign z ++ decimal (nat_abs z)
unfolding signed_decimal
signed_text (pos n) = refl
signed_text (negsuc n) = rw (add-one n)

pub sign_below : (z : ℤ) → lt_z z (pos 0) ≡ true → sign z ≡ 45 ∷ []
sign_below (pos n) t = absurd (omega (arith, ltb-true n 0 t))
sign_below (negsuc n) t = refl

pub sign_from : (z : ℤ) → lt_z z (pos 0) ≡ false → sign z ≡ []
sign_from (pos n) t = refl
sign_from (negsuc n) t = cc
