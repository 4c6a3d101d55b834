-- The calls that write: what each has to write, or the number of its refusal, and what it leaves in the output. Assumes nothing.
use Rattle.std.specs.Prelude.{ℕ, Bool, true, false, List, ◌++◌, length, drop, leb}
use Rattle.sections.specs.declared.Shape.{Shape}
use Rattle.std.specs.Prelude.{Result, Err, Ok}
use Rattle.sections.specs.declared.Refusal.{Refusal}
use Rattle.sections.specs.Rows.{Form}
use Rattle.machine.specs.State.{Outcome}
use Rattle.plant_file.specs.Plant.{Plant, plant_of}
use Rattle.plant_file.specs.Form.{plant_form}
use Rattle.plant_file.specs.File.{plant_file}
use Rattle.plant_file.specs.Rates.{listed_rate, rates_form}
use Rattle.plan_file.specs.Plan.{plan_of}
use Rattle.plan_file.specs.File.{plan_file}
use Rattle.slot_file.specs.Slots.{slots_of}
use Rattle.slot_file.specs.Form.{slot_form}
use Rattle.slot_file.specs.File.{slot_file}
use Rattle.machine.specs.Run.{run}
use Rattle.model.specs.RunTables.{run_tables}
use Rattle.model.specs.Rolled.{weeks_left, backlog_carried, rolled_plant}
use Rattle.passed_plan.specs.Judgement.{Judgement, judgement_of}
use Rattle.passed_plan.specs.Shown.{shown_in}
use Rattle.sections.specs.declared.Refusal.TheVariants as refusal

pub data Answer : Type 0 where
  bytes : List ℕ → Answer
  refused : Refusal → Answer

-- ---- what there is to write
abbrev pub form_answer : Form → (Shape → Answer) → Answer
form_answer (Ok f) next = next f
form_answer (Err n) next = refused n

abbrev pub judged_answer : Judgement → (Shape → Answer) → Answer
judged_answer (Ok p) next = next p.shape
judged_answer (Err n) next = refused n

abbrev pub run_answer : Outcome → Answer → Answer
run_answer (Ok tt) next = next
run_answer (Err n) next = refused n

-- slot return: the slots that a passed plan shows, as a file
unfoldable pub slot_answer : (plant plan : List ℕ) → Answer
slot_answer plant plan = judged_answer (judgement_of plant plan) (λ f. bytes (slot_file f (shown_in f plan)))

-- plan writing: the tables of a run without a stop, as a file
unfoldable pub plan_answer : (plant slots : List ℕ) → Answer
plan_answer plant slots =
    form_answer (plant_form plant) (λ f. form_answer (slot_form f slots) (λ _.
    run_answer (run (plant_of f plant) (slots_of f slots)).outcome (bytes (plan_file f (run_tables (plant_of f plant) (slots_of f slots))))))

-- a test behind the rows: what fails it is refused with this number
abbrev pub test_answer : Refusal → Bool → Answer → Answer
test_answer n true next = next
test_answer n false next = refused n

-- rolling on: the plant of the weeks after the first k, with the rates of a list, as a file (request 2026-03)
abbrev pub rolled_in : Shape → (plant plan : List ℕ) (k : ℕ) (rates : List ℕ) → Plant
rolled_in f plant plan k rates = rolled_plant (plant_of f plant) (plan_of f plan) k (listed_rate rates)

-- "61 if k is not 1 to W − 1, after the plan's checks and before the rates; 62 if an owed amount exceeds the limit, after the rates and before 51"
unfoldable pub roll_passed : Shape → (plant plan : List ℕ) (k : ℕ) (rates : List ℕ) → Answer
roll_passed f plant plan k rates =
    test_answer refusal.WeeksLeft (weeks_left f.weeks k)
    (form_answer (rates_form f rates) (λ _.
    test_answer refusal.OpeningBacklog (backlog_carried (plant_of f plant) (plan_of f plan) k)
    (bytes (plant_file (rolled_in f plant plan k rates)))))

unfoldable pub roll_answer : (plant plan : List ℕ) (k : ℕ) (rates : List ℕ) → Answer
roll_answer plant plan k rates = judged_answer (judgement_of plant plan) (λ f. roll_passed f plant plan k rates)

-- ---- what a call returns and leaves: 51 comes last, for an output shorter than the result
abbrev pub Written : Type 0
Written = Result ℕ Refusal

abbrev pub length_in : Bool → ℕ → Written
length_in true n = Ok n
length_in false n = Err refusal.OutputLength

unfoldable pub written_in : Answer → List ℕ → Written
written_in (bytes b) out = length_in (leb (length b) (length out)) (length b)
written_in (refused n) out = Err n

-- the result, then the bytes that were there; as it was where the call refuses
abbrev pub put_in : Bool → List ℕ → List ℕ → List ℕ
put_in true b out = b ++ drop (length b) out
put_in false b out = out

unfoldable pub output_after : Answer → List ℕ → List ℕ
output_after (bytes b) out = put_in (leb (length b) (length out)) b out
output_after (refused n) out = out
