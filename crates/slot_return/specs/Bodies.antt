-- The slots that a plan shows, and the bodies of their file. Assumes nothing.
use Rattle.std.specs.Prelude.{ℕ, List, [], get_or}
use Rattle.slot_file.specs.Slots.{Slot, Slots}
use Rattle.slot_file.specs.File.{slot_bodies}
use Rattle.passed_plan.specs.Shown.{week_count, shown_in}
use Rattle.slot_return.specs.declared.ShownSlots.{ShownSlots}

abbrev pub slots_in : ShownSlots → Slots
slots_in x = shown_in x.plan.shape x.plan.bytes.now

-- how many a week has
abbrev pub count_in : ShownSlots → ℕ → ℕ
count_in x = week_count x.plan.shape x.plan.bytes.now

-- those of a week
abbrev pub week_in : ShownSlots → ℕ → List Slot
week_in x w = (slots_in x).line.week w

-- the body in a place
abbrev pub body_in : ShownSlots → ℕ → List ℕ
body_in x i = get_or (slot_bodies x.plan.shape (slots_in x)) i []
