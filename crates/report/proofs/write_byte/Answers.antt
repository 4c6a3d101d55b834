-- `report::write_byte` meets its contract. Assumes nothing.
use native.Mathlib.Omega.{arith}
use Rattle.report.proofs.StoredText.{stored_byte}
use Rattle.report.proofs.write_byte.Goals as goal

pub returns : goal.returns
returns c = stored_byte c.args.out.now c.args.at c.args.byte (omega arith)
