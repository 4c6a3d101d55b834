-- What a slot file for a plant of a shape is: good, or the number of the first row of the table of refusals that turns it down.
-- Assumes nothing.
use Rattle.std.specs.Prelude.{ℕ, ◌*◌, Bool, ◌&&◌, List, [], ◌∷◌, ltb}
use Rattle.mathematics.specs.Below.{all_below}
use Rattle.contents.specs.Contents.{headed, placed, sized}
use Rattle.sections.specs.Section.{in_range}
use Rattle.sections.specs.Rows.{Form, row}
use Rattle.sections.specs.Layout.{slot_kind, layout, lengths_of}
use Rattle.sections.specs.declared.Layout.{Layout}
use Rattle.sections.specs.declared.Shape.{Shape}
use Rattle.std.specs.Prelude.{Ok}
use Rattle.slot_file.specs.Slots.{slot_at, slots_before}
use Rattle.sections.specs.declared.Refusal.TheVariants as refusal

-- sections 41 to 43, where the slots are `total` in all: a byte a week; product (1 byte) and minutes (2) of a slot; section 5's order, 4 bytes
abbrev pub slot_layout : Shape → ℕ → List Layout
slot_layout f total = layout 1 1 f.weeks ∷ layout 3 1 total ∷ layout 4 (f.customers * f.products) f.weeks ∷ []

-- row 23: the length of each body
abbrev pub slot_lengths : Shape → ℕ → List ℕ
slot_lengths f total = lengths_of (slot_layout f total)

-- row 24: each week's count 0 to N ("24 admits a count of 0", request 2026-01), each product below N
unfoldable pub slots_in_range : List ℕ → Shape → Bool
slots_in_range s f =
    in_range 1 s 0 0 f.weeks 0 f.products && all_below (slots_before s f.weeks) (λ j. ltb (slot_at s j).product f.products)

-- rows 21 to 24: a slot file is a file of kind 3 with sections 41 to 43; 42 is three times the sum of 41 long
unfoldable pub slot_form : Shape → List ℕ → Form
slot_form f s =
    row refusal.SlotContents (headed s slot_kind.number slot_kind.first slot_kind.sections)
    (row refusal.SlotPlaces (placed s slot_kind.sections)
    (row refusal.SlotLengths (sized s (slot_lengths f (slots_before s f.weeks)))
    (row refusal.SlotRanges (slots_in_range s f)
    (Ok f))))
