-- The slots of an array, as those of a file. Assumes nothing.
use Rattle.std.specs.Prelude.{List, map}
use Rattle.slot_file.specs.Slots.{Slot as FileSlot}
use Rattle.slot_file.specs.declared.Slot.{Slot}

-- the numbers of a slot, and of the slots of a row
abbrev pub slot_of : Slot → FileSlot
slot_of t = record { product = t.product; minutes = t.minutes.0 }

abbrev pub slots_in : List Slot → List FileSlot
slots_in row = map slot_of row
