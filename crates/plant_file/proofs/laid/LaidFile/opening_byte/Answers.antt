-- `plant_file::LaidFile::opening_byte` meets its contract. Assumes nothing.
use mathlib.Core.Path.{sym, ◌∙◌}
use Rattle.sections.proofs.Rows.{holds_inside}
use Rattle.plant_file.proofs.PlantReads.{mounted_holds}
use Rattle.plant_file.proofs.laid.LaidFile.opening_byte.Goals as goal

pub cell_in-requires : goal.cell_in-requires
cell_in-requires c = holds_inside (mounted_holds _ _ c.args.self.laid (sym c.has_mounted.ensures ∙ c.if-has_mounted.true)) _ c.requires
