-- `plant_file::LaidFile::is_time_in_range` meets its contract. Assumes nothing.
use borrow.Author.Rules.{rules}
use native.Mathlib.Omega.{arith}
use Rattle.sections.proofs.Rows.{holds_inside}
use Rattle.plant_file.proofs.LaidAccess.{holds2}
use Rattle.plant_file.proofs.laid.LaidFile.is_time_in_range.Goals as goal

pub cell_in-shortest-requires : goal.cell_in-shortest-requires
cell_in-shortest-requires c = holds_inside (holds2 c.args.self 10 (search rules) {m = 2} (omega arith)) 0 (search rules)

pub cell_in-week-requires : goal.cell_in-week-requires
cell_in-week-requires c = holds_inside (holds2 c.args.self 10 (search rules) {m = 2} (omega arith)) 1 (search rules)
