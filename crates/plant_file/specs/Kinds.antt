-- The kinds of plant file (request 2026-02): one table from the kind byte to what a kind has. That is its number, how many sections it has from
-- section 1 on, the most grams of opening backlog, and whether the diagonals of sections 3 and 4 may be filled. Assumes nothing.
use Rattle.std.specs.Prelude.{ℕ, Bool, false, cond, eqb}
use Rattle.sections.specs.Layout.{Kind, contents_length}
use Rattle.sections.specs.Limits.{most_kind_one_backlog, most_opening_backlog}
use Rattle.plant_file.specs.declared.PlantKind.{PlantKind}

-- sections 1 to 11
abbrev pub kind_one : PlantKind
kind_one = record { number = 1; sections = 11; backlog = most_kind_one_backlog; diagonals = false }

-- "Plant files of kind 4 add section 12"; "In kind 4 the opening owed may reach 1,600,000,000" (request 2026-03). The diagonals are those of kind 1
abbrev pub kind_four : PlantKind
kind_four = record { number = 4; sections = 12; backlog = most_opening_backlog; diagonals = false }

-- a byte that is no kind's has what kind 1 has; row 1 refuses it by its number
unfoldable pub plant_kind : ℕ → PlantKind
plant_kind kind = cond (eqb kind 4) kind_four kind_one

-- whether a kind has section 12
unfoldable pub has_mounted : ℕ → Bool
has_mounted kind = eqb (plant_kind kind).sections 12

-- a kind of plant file as a kind of file, and the bytes of its contents
abbrev pub file_kind : ℕ → Kind
file_kind kind = record { number = (plant_kind kind).number; first = 1; sections = (plant_kind kind).sections }

abbrev pub contents_of : ℕ → ℕ
contents_of kind = contents_length (file_kind kind)
