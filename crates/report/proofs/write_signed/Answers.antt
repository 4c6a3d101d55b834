-- `report::write_signed` meets its contract. Assumes nothing.
use native.Mathlib.Omega.{arith}
use mathlib.Core.Path.{◌≡◌, ap}
use mathlib.Core.List.{◌++◌}
use Prim.Native.Nat.{ℕ}
use lib.ListN.{length, length-append}
use lib.IntN.{nat_abs}
use mir.Syntax.{w64}
use mir.Val.{of_z, to_z}
use mir.ValLaws.{to_z-of_z}
use Rattle.report.specs.Text.{decimal, signed_decimal}
use Rattle.report.specs.Stored.{Stored}
use Rattle.report.proofs.StoredText.{stored_none, stored_both}
use Rattle.report.proofs.Signs.{sign, signed_text, sign_below, sign_from}
use Rattle.report.proofs.write_signed.Goals as goal
use Rattle.report.proofs.write_signed.Goals.{Joined-z-lt0, then-z-lt0, else-z-lt0}

module _ (c : Joined-z-lt0) where
  same : to_z w64 (of_z w64 c.args.z) ≡ c.args.z
  same = to_z-of_z w64 c.args.z c.ranges.z

  sign_stored : let a = c.args in Stored a.out.now a.at (sign a.z) c.if-z-lt0.digits c.if-z-lt0.out
  sign_stored = let z = c.args.z in elim c.if-z-lt0.branch [
    | then-z-lt0 w ↦ rw (w.out-is, w.digits-is, sign_below z (rw same at w.if-z-lt0.true)) w.write_byte-digits.ensures
    | else-z-lt0 w ↦ rw (w.out-is, w.digits-is, sign_from z (rw same at w.if-z-lt0.false)) (stored_none c.args.out.now c.args.at)
  ]

  whole : (n : ℕ) → n ≡ nat_abs (to_z w64 (of_z w64 c.args.z)) → signed_decimal c.args.z ≡ sign c.args.z ++ decimal n
  whole n e = rw (e, same) (signed_text c.args.z)

pub write_byte-digits-requires : goal.write_byte-digits-requires
write_byte-digits-requires c =
    let z = c.args.z in
    let below = sign_below z (rw (to_z-of_z w64 z c.ranges.z) at c.if-z-lt0.true) in
    let size = rw (signed_text z, below) at c.requires in
    omega arith

pub write_decimal-requires : goal.write_decimal-requires
write_decimal-requires c =
    let d = (goal.at.write_decimal-requires c).Joined-z-lt0 in
    omega (
      arith,
      (sign_stored d).end,
      ap length (whole d c.unsigned_abs.result c.unsigned_abs.ensures.value),
      length-append (sign c.args.z) (decimal c.unsigned_abs.result),
    )

pub returns : goal.returns
returns c =
    let d = (goal.at.returns c).Joined-z-lt0 in
    rw (whole d c.unsigned_abs.result c.unsigned_abs.ensures.value) (stored_both {s = c.args.out.now} (omega arith) (sign_stored d) c.write_decimal.ensures)
