-- `plant_file::LaidFile::is_market_in_range` meets its contract. Assumes nothing.
use borrow.Author.Rules.{rules}
use native.Mathlib.Omega.{arith}
use Rattle.plant_file.proofs.LaidAccess.{holds4}
use Rattle.plant_file.proofs.laid.LaidFile.is_market_in_range.Goals as goal

pub in_range-requires : goal.in_range-requires
in_range-requires c = holds4 c.args.self 4 (search rules) (omega arith)

pub in_range-requires-then-in_range : goal.in_range-requires-then-in_range
in_range-requires-then-in_range c = holds4 c.args.self 5 (search rules) (omega arith)

pub in_range-requires-then-in_range-2 : goal.in_range-requires-then-in_range-2
in_range-requires-then-in_range-2 c = holds4 c.args.self 6 (search rules) (omega arith)

pub in_range-requires-then-in_range-3 : goal.in_range-requires-then-in_range-3
in_range-requires-then-in_range-3 c = holds4 c.args.self 7 (search rules) (omega arith)
