-- Where the weeks of a pair stand. Assumes nothing.
use Rattle.std.specs.Prelude.{ℕ, ◌+◌, ◌*◌, ◌<◌, ◌≡◌, List}
use Rattle.contents.specs.Contents.{offset}
use Rattle.sections.specs.declared.Shape.{Shape}
use Rattle.sections.specs.declared.PairRow.{PairRow}
use Rattle.sections.specs.Section.{Holds}

-- a section that holds a number for each pair and week, and the first number of one of its pairs
pub record PairRowOf (f : Shape) (s : List ℕ) (row : PairRow) : Type 0 where
  pub holds : Holds s row.section 4 (f.customers * f.products * f.weeks)
  pub known : row.pair < f.customers * f.products
  pub at : row.at ≡ offset s row.section + 4 * (row.pair * f.weeks)
