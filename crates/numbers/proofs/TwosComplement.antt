-- Two's complement of 8 bytes: there and back. Assumes nothing.
use Prim.Native.Nat.{ℕ, suc, ◌-◌, ◌<◌, ◌^◌}
use mathlib.Core.Path.{◌≡◌, refl, ap, ◌∙◌}
use mathlib.Core.Bool.{Bool, true, false, cond}
use lib.Dec.{ltb}
use lib.IntN.{ℤ, pos, negsuc}
use mir.Syntax.{w64}
use mir.Val.{SFits, of_z, to_z, sel}
use mir.ValLaws.{to_z-of_z, of_z-to_z, to_z-Fits, of_z_fits}
use Rattle.numbers.specs.Signed.{signed_of, unsigned_of}

-- the definitions are those of the language's machine
by_test : (b : Bool) (x y : ℤ) → cond b x y ≡ sel b x y
by_test true x y = refl
by_test false x y = refl

pub signed_is : (v : ℕ) → signed_of v ≡ to_z w64 v
unfolding signed_of
signed_is v = by_test (ltb v (2 ^ 63)) (pos v) (negsuc (2 ^ 64 - suc v))

pub unsigned_is : (z : ℤ) → unsigned_of z ≡ of_z w64 z
unfolding unsigned_of
unsigned_is (pos n) = refl
unsigned_is (negsuc n) = refl

-- there and back
pub unsigned_signed : (v : ℕ) → v < 2 ^ 64 → unsigned_of (signed_of v) ≡ v
unsigned_signed v h = unsigned_is (signed_of v) ∙ (ap (of_z w64) (signed_is v) ∙ of_z-to_z w64 v (record { fits = h }))

pub signed_unsigned : (z : ℤ) → SFits w64 z → signed_of (unsigned_of z) ≡ z
signed_unsigned z h = signed_is (unsigned_of z) ∙ (ap (to_z w64) (unsigned_is z) ∙ to_z-of_z w64 z h)

pub unsigned_below : (z : ℤ) → SFits w64 z → unsigned_of z < 2 ^ 64
unsigned_below z h = rw (unsigned_is z) (of_z_fits w64 z h).fits

pub signed_fits : (v : ℕ) → v < 2 ^ 64 → SFits w64 (signed_of v)
signed_fits v h = rw (signed_is v) (to_z-Fits w64 v (record { fits = h }))
