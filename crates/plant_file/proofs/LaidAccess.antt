-- The sections of a file whose bodies lie where they should have room for their numbers. Assumes nothing.
use Prim.Native.Nat.{ℕ, ◌*◌, ◌≤◌, ◌<◌}
use native.Mathlib.Omega.{arith}
use lib.ListN.{get_or}
use Rattle.sections.specs.Section.{Holds}
use Rattle.sections.proofs.Rows.{laid_holds, width2, width4}
use Rattle.plant_file.specs.declared.laid.LaidFile.{LaidFile}
use Rattle.plant_file.specs.Form.{plant_lengths}

module _ (x : LaidFile) (place : ℕ) (l : place < 11) {m : ℕ} where
  pub holds2 : 2 * m ≤ get_or (plant_lengths x.shape) place 0 → Holds x.bytes.now place 2 m
  holds2 = laid_holds x.laid place (omega (arith, l)) 2 m width2

  pub holds4 : 4 * m ≤ get_or (plant_lengths x.shape) place 0 → Holds x.bytes.now place 4 m
  holds4 = laid_holds x.laid place (omega (arith, l)) 4 m width4
