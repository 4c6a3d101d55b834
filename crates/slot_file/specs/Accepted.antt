-- The numbers of an accepted slot file, and those of a week's slots. Assumes nothing.
use Rattle.std.specs.Prelude.{List}
use Rattle.slot_file.specs.Slots.{Slot, Slots, slots_of}
use Rattle.slot_file.specs.declared.SlotFile.{SlotFile}
use Rattle.slot_file.specs.declared.WeekRow.{WeekRow}

abbrev pub slots_in_file : SlotFile → Slots
slots_in_file file = slots_of file.shape file.bytes.now

abbrev pub slots_in_week : WeekRow → List Slot
slots_in_week row = (slots_in_file row.file).line.week row.week
