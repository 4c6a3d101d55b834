-- `report::digit_count` meets its contract. Assumes nothing.
use native.Mathlib.Omega.{arith}
use mathlib.Core.Path.{sym}
use Rattle.report.proofs.Decimal.{decimal_count}
use Rattle.report.proofs.digit_count.Goals as goal

pub returns : goal.returns
returns c =
    let e = c.ilog10.ensures in
    sym (decimal_count c.ilog10.result c.args.v e.bound (omega arith) (omega arith))
