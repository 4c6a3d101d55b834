-- THE THIRD DEMAND, over the calls' own definitions: the claim for one accepted plant file and any bytes as the plan file. Each sentence
-- of the demand is one field. Assumes nothing.
use Rattle.std.specs.Prelude.{ℕ, ◌≤◌, ◌≡◌, ◌↔◌, List, ◌++◌, length, drop}
use Rattle.numbers.specs.Number.{Bytes}
use Rattle.sections.specs.declared.Shape.{Shape}
use Rattle.std.specs.Prelude.{Ok}
use Rattle.plant_file.specs.Plant.{plant_of}
use Rattle.plan_file.specs.File.{plan_file}
use Rattle.slot_file.specs.Slots.{slots_of}
use Rattle.slot_file.specs.Form.{slot_form}
use Rattle.units.specs.declared.Profit.{Profit}
use Rattle.machine.specs.declared.State.{State}
use Rattle.machine.specs.State.{continues}
use Rattle.machine.specs.Run.{run}
use Rattle.model.specs.RunTables.{run_tables}
use Rattle.calls.specs.Check.{check_of}
use Rattle.calls.specs.Answer.{slot_answer, plan_answer, written_in, output_after}

-- "a slot file that rows 21–24 let through whose run never stops and gives that plan file byte for byte", ending in the state s
pub record GivesFile (plant : List ℕ) (f : Shape) (slots : List ℕ) (s : State) (plan : List ℕ) : Type 0 where
  pub bytes : Bytes slots
  pub rows : slot_form f slots ≡ Ok f
  pub runs : run (plant_of f plant) (slots_of f slots) ≡ continues s
  pub gives : plan_file f (run_tables (plant_of f plant) (slots_of f slots)) ≡ plan

pub record ThirdDemand (plant : List ℕ) (f : Shape) (plan : List ℕ) : Type 0 where
  -- "checking passes exactly when there is a slot file that .. gives that plan file"
  pub passes_exactly : ((q : Profit) × (check_of plant plan ≡ Ok q)) ↔ ((slots : List ℕ) × (s : State) × GivesFile plant f slots s plan)
  -- "there is only one"
  pub only_one : (a b : List ℕ) (s t : State) → GivesFile plant f a s plan → GivesFile plant f b t plan → a ≡ b
  -- "slot return writes exactly that one into an output at least as long", and "returns its length"
  pub slots_returned : (slots : List ℕ) (s : State) → GivesFile plant f slots s plan → (out : List ℕ) → length slots ≤ length out
      → (written_in (slot_answer plant plan) out ≡ Ok (length slots)) × (output_after (slot_answer plant plan) out ≡ slots ++ drop (length slots) out)
  -- "plan writing turns it into that plan file again", and "returns its length"
  pub plan_again : (slots : List ℕ) (s : State) → GivesFile plant f slots s plan → (out : List ℕ) → length plan ≤ length out
      → (written_in (plan_answer plant slots) out ≡ Ok (length plan)) × (output_after (plan_answer plant slots) out ≡ plan ++ drop (length plan) out)
  -- "the profit is the purse at the end of that run"
  pub profit_of_run : (slots : List ℕ) (s : State) → GivesFile plant f slots s plan → check_of plant plan ≡ Ok s.profit
