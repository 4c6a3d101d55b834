-- `report::write_decimal` meets its contract: the digits of what is left, stored, give the whole. Assumes nothing.
use mathlib.Core.Path.{◌≡◌}
use Prim.Native.Nat.{◌-◌}
use lib.ListN.{length}
use Rattle.numbers.specs.Number.{store}
use Rattle.report.specs.Text.{decimal}
use Rattle.report.proofs.Decimal.{digits}
use Rattle.report.proofs.write_decimal.Given as goal

abbrev pub invariant-loop-p : goal.invariant-loop-p
invariant-loop-p l =
    (length l.out ≡ length l.initial.out) × (store l.out l.at (digits (l.p - l.at) l.left) ≡ store l.initial.out l.at (decimal l.v))
