-- The bytes of a slot file with given numbers, laid out as paper 01 says under "Files". Assumes nothing.
use Rattle.std.specs.Prelude.{ℕ, List, [], ◌∷◌, ◌++◌, length}
use Rattle.mathematics.specs.Below.{join_below}
use Rattle.numbers.specs.Number.{digits, encode}
use Rattle.contents.specs.File.{file_of}
use Rattle.sections.specs.Section.{cube}
use Rattle.sections.specs.Layout.{slot_kind}
use Rattle.sections.specs.declared.Shape.{Shape}
use Rattle.slot_file.specs.Slots.{Slot, Slots}

-- slots in running order: product (1 byte) and minutes (2)
abbrev pub slot_bytes : List Slot → List ℕ
slot_bytes [] = []
slot_bytes (x ∷ xs) = digits 1 x.product ++ (digits 2 x.minutes ++ slot_bytes xs)

-- the bodies of sections 41 to 43
unfoldable pub slot_bodies : Shape → Slots → List (List ℕ)
slot_bodies f x =
    encode 1 f.weeks (λ w. length (x.line.week w))
    ∷ join_below f.weeks (λ w. slot_bytes (x.line.week w))
    ∷ cube 4 f.customers f.products f.weeks x.sales
    ∷ []

unfoldable pub slot_file : Shape → Slots → List ℕ
slot_file f x = file_of slot_kind.number slot_kind.first (slot_bodies f x)
