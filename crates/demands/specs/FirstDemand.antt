-- THE FIRST DEMAND, over the calls' own definitions: which number each call of the three levels refuses with, and what a refusal of any call leaves.
-- Assumes nothing.
use Rattle.sections.specs.declared.Refusal.{Refusal}
use Rattle.std.specs.Prelude.{ℕ, ◌<◌, ◌≡◌, ◌↔◌, List, length}
use Rattle.sections.specs.declared.Shape.{Shape}
use Rattle.std.specs.Prelude.{Err, Ok}
use Rattle.plant_file.specs.Plant.{plant_of}
use Rattle.plant_file.specs.Form.{plant_form}
use Rattle.plan_file.specs.Plan.{plan_of}
use Rattle.plan_file.specs.Form.{plan_form}
use Rattle.slot_file.specs.Slots.{slots_of}
use Rattle.slot_file.specs.Form.{slot_form}
use Rattle.machine.specs.Run.{run}
use Rattle.rules.specs.Verdict.{verdict_of}
use Rattle.calls.specs.Check.{check_of}
use Rattle.calls.specs.Answer.{Answer, bytes, refused, slot_answer, plan_answer, written_in, output_after}
use Rattle.sections.specs.declared.Refusal.TheVariants as refusal

pub record FirstDemand (plant plan slots : List ℕ) : Type 0 where
  -- "The plant comes first": rows 1 to 5 are every call's answer
  pub plant_refused : (n : Refusal) → plant_form plant ≡ Err n
      → (check_of plant plan ≡ Err n) × (slot_answer plant plan ≡ refused n) × (plan_answer plant slots ≡ refused n)
  -- then the plan's rows 11 to 14, then the first rule broken, 31 to 41
  pub plan_refused : (f : Shape) (n : Refusal) → plant_form plant ≡ Ok f → plan_form f plan ≡ Err n
      → (check_of plant plan ≡ Err n) × (slot_answer plant plan ≡ refused n)
  pub rule_broken : (f : Shape) (n : Refusal) → plant_form plant ≡ Ok f → plan_form f plan ≡ Ok f
      → verdict_of (plant_of f plant) (plan_of f plan) ≡ Err n → (check_of plant plan ≡ Err n) × (slot_answer plant plan ≡ refused n)
  -- so slot return refuses what checking refuses, with the same number
  pub refused_alike : (n : Refusal) → (check_of plant plan ≡ Err n) ↔ (slot_answer plant plan ≡ refused n)
  -- or the slots' rows 21 to 24, then the run's first stop
  pub slots_refused : (f : Shape) (n : Refusal) → plant_form plant ≡ Ok f → slot_form f slots ≡ Err n → plan_answer plant slots ≡ refused n
  pub run_stopped : (f : Shape) (n : Refusal) → plant_form plant ≡ Ok f → slot_form f slots ≡ Ok f
      → (run (plant_of f plant) (slots_of f slots)).outcome ≡ Err n → plan_answer plant slots ≡ refused n

-- of a call that writes: its refusal is returned, 51 comes last and only for an output shorter than the result, and a refusal leaves
-- every byte of the output
pub record RefusalsKeep (answer : Answer) (out : List ℕ) : Type 0 where
  pub returned : (n : Refusal) → answer ≡ refused n → written_in answer out ≡ Err n
  pub too_short : (b : List ℕ) → answer ≡ bytes b → (written_in answer out ≡ Err refusal.OutputLength) ↔ (length out < length b)
  pub untouched : (n : Refusal) → written_in answer out ≡ Err n → output_after answer out ≡ out
