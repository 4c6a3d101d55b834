-- `plant_file::LaidFile::are_diagonals_in_range` meets its contract. Assumes nothing.
use borrow.Author.Rules.{rules}
use native.Mathlib.Omega.{arith}
use Rattle.plant_file.proofs.LaidAccess.{holds2, holds4}
use Rattle.plant_file.proofs.laid.LaidFile.are_diagonals_in_range.Goals as goal

pub diagonal_zero-requires : goal.diagonal_zero-requires
diagonal_zero-requires c = (rw c.from-n.ensures (holds2 c.args.self 2 (search rules) (omega arith)), search rules)

pub diagonal_zero-requires-then-diagonal_zero : goal.diagonal_zero-requires-then-diagonal_zero
diagonal_zero-requires-then-diagonal_zero c = (rw c.from-n.ensures (holds4 c.args.self 3 (search rules) (omega arith)), search rules)
