-- What a run's two files hold. Assumes nothing.
use Prim.Native.Nat.{ℕ, ◌<◌}
use mathlib.Core.Path.{subst}
use native.Mathlib.Omega.{arith}
use Rattle.sections.specs.declared.Shape.{Shape}
use Rattle.slot_file.specs.Slots.{SlotsFit, slots_of}
use Rattle.slot_file.proofs.AcceptedFile.{fits}
use Rattle.machine.specs.declared.RunInput.{RunInput}
use Rattle.machine.specs.declared.State.{State}
use Rattle.machine.specs.Bounds.{Sane, Roomy}
use Rattle.machine.specs.Input.{slots_in_run, week_in}
use Rattle.machine.specs.Row.{Runnable}
use Rattle.machine.proofs.Plants.{few}
use Rattle.machine.proofs.Sanity.{sane_more, sane_roomy}

module _ (input : RunInput) where
  pub fit : SlotsFit input.plant.shape (slots_in_run input)
  fit = subst (λ (f : Shape). SlotsFit f (slots_of f input.slots.bytes.now)) input.same (fits input.slots)

  -- a week of the plant has at most 25 before it
  module _ (w : ℕ) (l : w < input.plant.shape.weeks) (s : State) where
    pub roomy : Sane input.plant.shape w 16 s → Roomy input.plant.shape s
    roomy h = sane_roomy h (omega (arith, (few input.plant).weeks)) (omega arith)

    -- what its slots ask
    pub runnable : Sane input.plant.shape w 0 s → Runnable input.plant.shape (week_in input w).slots s
    runnable h =
        record {
          sane = sane_more h (omega (arith, (few input.plant).weeks)) (omega arith);
          few = omega (arith, (fit.formed w l).few, (few input.plant).products);
          product = (fit.formed w l).product;
          minutes = λ i m. fit.minutes w i l m;
        }
