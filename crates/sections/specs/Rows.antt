-- The table of refusals: its numbers, and its rows one after the other. Assumes nothing.
use Rattle.std.specs.Prelude.{ℕ, Bool, true, false, Result, Ok, Err}
use Rattle.sections.specs.declared.Shape.{Shape}
use Rattle.sections.specs.declared.Refusal.{Refusal}
use Rattle.sections.specs.declared.Refusal.TheVariants as refusal

-- the paper's number of a refusal
abbrev pub refusal_number : Refusal → ℕ
refusal_number refusal.PlantContents = 1
refusal_number refusal.PlantPlaces = 2
refusal_number refusal.PlantLimits = 3
refusal_number refusal.PlantLengths = 4
refusal_number refusal.PlantRanges = 5
refusal_number refusal.PlanContents = 11
refusal_number refusal.PlanPlaces = 12
refusal_number refusal.PlanLengths = 13
refusal_number refusal.PlanMarks = 14
refusal_number refusal.SlotContents = 21
refusal_number refusal.SlotPlaces = 22
refusal_number refusal.SlotLengths = 23
refusal_number refusal.SlotRanges = 24
refusal_number refusal.ProductTwice = 25
refusal_number refusal.Ends = 31
refusal_number refusal.Sequence = 32
refusal_number refusal.Passage = 33
refusal_number refusal.Position = 34
refusal_number refusal.RunMinutes = 35
refusal_number refusal.WeekMinutes = 36
refusal_number refusal.Production = 37
refusal_number refusal.Backlog = 38
refusal_number refusal.Inventory = 39
refusal_number refusal.Storage = 40
refusal_number refusal.Profit = 41
refusal_number refusal.OutputLength = 51
refusal_number refusal.WeeksLeft = 61
refusal_number refusal.OpeningBacklog = 62

-- what a file's rows say: good, for a plant of this shape, or refused
abbrev pub Form : Type 0
Form = Result Shape Refusal

-- a file that fails a row's test is refused with this number, any other goes on to the next row
abbrev pub row : Refusal → Bool → Form → Form
row n true next = next
row n false next = Err n

-- the paper's number of a form, 0 for a good file
abbrev pub number_of : Form → ℕ
number_of (Ok f) = 0
number_of (Err n) = refusal_number n
