-- `plant_file::LaidFile::is_product_storage_in_range` meets its contract. Assumes nothing.
use borrow.Author.Rules.{rules}
use native.Mathlib.Omega.{arith}
use Prim.Native.Nat.{◌+◌, ◌*◌}
use Rattle.sections.proofs.Rows.{holds_inside}
use Rattle.plant_file.proofs.LaidAccess.{holds4}
use Rattle.plant_file.proofs.laid.LaidFile.is_product_storage_in_range.Goals as goal

pub cell_in-least-requires : goal.cell_in-least-requires
cell_in-least-requires c =
    holds_inside (holds4 c.args.self 8 (search rules) {m = 2 * c.args.self.shape.products} (omega arith)) (2 * c.args.product) (omega arith)

pub cell_in-greatest-requires : goal.cell_in-greatest-requires
cell_in-greatest-requires c =
    holds_inside (holds4 c.args.self 8 (search rules) {m = 2 * c.args.self.shape.products} (omega arith)) (2 * c.args.product + 1) (omega arith)
