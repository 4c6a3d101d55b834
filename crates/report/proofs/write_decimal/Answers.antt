-- `report::write_decimal` meets its contract: the digits of what is left, stored, give the whole. Assumes nothing.
use native.Mathlib.Omega.{arith}
use mathlib.Core.Path.{◌≡◌, refl, ◌∙◌}
use Prim.Native.Nat.{◌+◌, ◌-◌}
use lib.ListN.{length, length-set}
use Rattle.report.specs.Text.{decimal}
use Rattle.report.proofs.Decimal.{decimal_digits}
use Rattle.report.proofs.StoredText.{digit_back}
use Rattle.report.proofs.write_decimal.Goals as goal

pub loop-p-init : goal.loop-p-init
loop-p-init c =
    let a = c.args in
    let count : a.at + c.digit_count.result - a.at ≡ length (decimal a.v) = omega (arith, c.digit_count.ensures) in
    (refl, rw (count, ← decimal_digits a.v) refl)

pub loop-p-preserved : goal.loop-p-preserved
loop-p-preserved c =
    let b = c.loop-p in
    let at = c.args.at in
    (rw length-set b.invariant.0, digit_back b.out at b.left (b.p - 1) (b.p - 1 - at) (b.p - at) (omega arith) (omega arith) (omega arith) ∙ b.invariant.1)
