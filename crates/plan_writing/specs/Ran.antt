-- What the writing of a plan starts from. Assumes nothing.
use Rattle.std.specs.Prelude.{ℕ, ◌≤◌, ◌<◌, ◌≡◌, List, length, get_or}
use Rattle.sections.specs.declared.Shape.{Shape}
use Rattle.std.specs.Prelude.{Ok}
use Rattle.plant_file.specs.Plant.{plant_of}
use Rattle.plant_file.specs.Form.{plant_form}
use Rattle.slot_file.specs.Slots.{slots_of}
use Rattle.slot_file.specs.Form.{slot_form}
use Rattle.machine.specs.Run.{run}

-- a good plant file, and a good slot file for it whose run never stops
pub record Ran (f : Shape) (plant slots : List ℕ) : Type 0 where
  pub plant_good : plant_form plant ≡ Ok f
  pub slots_good : slot_form f slots ≡ Ok f
  pub continued : (run (plant_of f plant) (slots_of f slots)).outcome ≡ Ok tt

-- n bytes of 0 at the start
pub record Cleared (n : ℕ) (out : List ℕ) : Type 0 where
  pub room : n ≤ length out
  pub zero : (i : ℕ) → i < n → get_or out i 0 ≡ 0
