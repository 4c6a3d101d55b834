-- The numbers of a run's two files. Assumes nothing.
use Rattle.std.specs.Prelude.{ℕ}
use Rattle.slot_file.specs.Slots.{Slots, slots_of}
use Rattle.machine.specs.declared.RunInput.{RunInput}
use Rattle.machine.specs.Machine.{WeekInput}
use Rattle.machine.specs.Files.{week_of_files}

abbrev pub slots_in_run : RunInput → Slots
slots_in_run input = slots_of input.plant.shape input.slots.bytes.now

-- what they bring into week w
abbrev pub week_in : RunInput → ℕ → WeekInput
week_in input w = week_of_files input.plant.shape input.plant.bytes.now input.slots.bytes.now w
