-- The kinds of plan and slot files, and the layout of a section, as paper 01 has them under "Files". The kinds of plant files stand in
-- `plant_file/specs/Kinds`. Assumes nothing.
use Rattle.std.specs.Prelude.{ℕ, ◌+◌, ◌*◌, ◌≡◌, List, map, length}
use Rattle.contents.specs.Lengths.{lengths_in}
use Rattle.contents.specs.declared.body_lengths.BodyLengths.{BodyLengths}
use Rattle.sections.specs.declared.Layout.{Layout}

-- a kind of file: its number, the number of its first section, and how many sections it has
pub record Kind : Type 0 where
  pub number : ℕ
  pub first : ℕ
  pub sections : ℕ

-- plans: kind 2, sections 21 to 32
abbrev pub plan_kind : Kind
plan_kind = record { number = 2; first = 21; sections = 12 }

-- slot files: kind 3, sections 41 to 43
abbrev pub slot_kind : Kind
slot_kind = record { number = 3; first = 41; sections = 3 }

-- the bytes of a kind's contents
abbrev pub contents_length : Kind → ℕ
contents_length k = 2 + 9 * k.sections

-- the lengths of the bodies of a file of this kind
pub record LengthsOf (k : Kind) (lengths : List ℕ) (x : BodyLengths) : Type 0 where
  pub kind : x.kind ≡ k.number
  pub first : x.first ≡ k.first
  pub sections : x.sections ≡ length lengths
  pub bodies : lengths_in x ≡ lengths

-- a section's numbers, rows of columns, have so many bytes each
abbrev pub layout : (width rows columns : ℕ) → Layout
layout width rows columns = record { width = width; rows = rows; columns = columns }

-- the lengths of sections in bytes
abbrev pub length_of : Layout → ℕ
length_of x = x.width * (x.rows * x.columns)

abbrev pub lengths_of : List Layout → List ℕ
lengths_of sections = map length_of sections
