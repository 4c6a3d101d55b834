-- `machine::RunInput::run` meets its contract: what is left to run, from `week` on, gives what the whole run gives. Assumes nothing.
use Prim.Native.Nat.{◌-◌}
use mathlib.Core.Path.{◌≡◌}
use Rattle.plant_file.specs.Accepted.{plant_in}
use Rattle.machine.specs.Run.{run_weeks, run}
use Rattle.machine.specs.Bounds.{Sane}
use Rattle.machine.specs.Input.{slots_in_run, week_in}
use Rattle.machine.proofs.RunInput.run.Given as goal

abbrev pub invariant-loop-week : goal.invariant-loop-week
invariant-loop-week l =
    let P = plant_in l.self.plant in
    Sane l.self.plant.shape l.week 0 l.state
    × (run_weeks P (week_in l.self) (P.weeks - l.week) l.week l.state ≡ run P (slots_in_run l.self))
