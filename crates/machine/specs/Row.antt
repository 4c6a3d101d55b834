-- What the run of a row of slots asks. Assumes nothing.
use Rattle.std.specs.Prelude.{ℕ, ◌-◌, ◌≤◌, ◌<◌, ◌^◌, List, length, get_or}
use Rattle.sections.specs.declared.Shape.{Shape}
use Rattle.sections.specs.Limits.{most_products, most_weeks}
use Rattle.slot_file.specs.Slots.{Slot, no_slot}
use Rattle.machine.specs.declared.State.{State}
use Rattle.machine.specs.Bounds.{Sane}

-- a state within the bounds of any week's start, and few slots, of known products and with minutes of two bytes
pub record Runnable (f : Shape) (xs : List Slot) (s : State) : Type 0 where
  pub sane : Sane f (most_weeks - 1) 0 s
  pub few : length xs ≤ most_products
  pub product : (i : ℕ) → i < length xs → (get_or xs i no_slot).product < f.products
  pub minutes : (i : ℕ) → i < length xs → (get_or xs i no_slot).minutes < 2 ^ 16
