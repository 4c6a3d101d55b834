-- The numbers of an accepted plant file: each is in its range, and lies within the file. Assumes nothing.
use Prim.Native.Nat.{ℕ, ◌+◌, ◌*◌, ◌/◌, ◌%◌, ◌≤◌, ◌<◌}
use borrow.Author.Rules.{rules}
use native.Mathlib.Omega.{arith}
use mathlib.Core.Path.{◌≡◌, sym, ap, ◌∙◌}
use mathlib.Core.List.{List}
use lib.ListN.{get_or}
use Rattle.mathematics.proofs.Pairs.{pair_of}
use Rattle.contents.specs.Contents.{cell, Inside}
use Rattle.sections.specs.Section.{Laid, Holds}
use Rattle.sections.proofs.Rows.{holds_inside}
use Rattle.plant_file.specs.declared.file.PlantFile.{PlantFile}
use Rattle.plant_file.specs.declared.laid.LaidFile.{LaidFile}
use Rattle.plant_file.proofs.LaidAccess.{holds2, holds4}
use Rattle.plant_file.specs.Accepted.{plant_in}
use Rattle.plant_file.specs.Form.{plant_lengths}
use Rattle.plant_file.specs.Ranges.{PlantRanges}
use Rattle.plant_file.proofs.PlantReads.{good_laid}
use Rattle.plant_file.proofs.PlantInRange.{plant_ranges}

-- every number of an accepted file is in its range
pub ranges : (x : PlantFile) → PlantRanges (plant_in x)
ranges x = plant_ranges x.bytes.now x.shape x.accepted

pub laid : (x : PlantFile) → Laid x.bytes.now (plant_lengths x.shape)
laid x = good_laid x.bytes.now x.shape x.accepted

abbrev pub laid_file : PlantFile → LaidFile
laid_file x = record { bytes = x.bytes; shape = x.shape; laid = laid x }

-- number j of the m numbers of 2 or 4 bytes that make up the section in a place
module _ (x : PlantFile) (place : ℕ) (l : place < 11) {m j : ℕ} where
  pub held2 : 2 * m ≤ get_or (plant_lengths x.shape) place 0 → j < m → Inside x.bytes.now place 2 j
  held2 h = holds_inside (holds2 (laid_file x) place l {m = m} h) j

  pub held4 : 4 * m ≤ get_or (plant_lengths x.shape) place 0 → j < m → Inside x.bytes.now place 4 j
  held4 h = holds_inside (holds4 (laid_file x) place l {m = m} h) j

-- section 5
pub demand_held : (x : PlantFile) → Holds x.bytes.now 4 4 (x.shape.customers * x.shape.products * x.shape.weeks)
demand_held x = holds4 (laid_file x) 4 (search rules) (omega arith)

-- an answer, by its equation and the range of what it equals
pub answer : {r x b : ℕ} → r ≡ x → x ≤ b → (r ≡ x) × (r ≤ b)
answer e h = (e, rw e h)

-- number q of a table of m by n, by its row and column
pub pair_answer : (k place : ℕ) (s : List ℕ) {m n q r b : ℕ} → r ≡ cell k s place q → q < m * n
    → ((i j : ℕ) → i < m → j < n → cell k s place (i * n + j) ≤ b) → (r ≡ cell k s place (q / n * n + q % n)) × (r ≤ b)
pair_answer k place s {m} {n} {q} e h most =
    let p = pair_of m n q h in
    answer (e ∙ ap (cell k s place) (sym p.number)) (most (q / n) (q % n) p.row p.column)
