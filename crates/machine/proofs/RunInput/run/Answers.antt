-- `machine::RunInput::run` meets its contract: what is left to run, from `week` on, gives what the whole run gives. Assumes nothing.
use Prim.Native.Nat.{ℕ, ◌<◌}
use mathlib.Core.Path.{◌≡◌, refl, ◌∙◌}
use native.Mathlib.Omega.{arith}
use native.Mathlib.Nat.{sub-zero}
use Rattle.std.proofs.lemmas.Result.{err_from_is_err_and}
use Rattle.plant_file.specs.Plant.{Plant}
use Rattle.plant_file.specs.Accepted.{plant_in}
use Rattle.machine.specs.declared.State.{State}
use Rattle.machine.specs.State.{Step}
use Rattle.machine.specs.Machine.{WeekInput}
use Rattle.machine.specs.Run.{run, run_week}
use Rattle.machine.specs.Input.{slots_in_run, week_in}
use Rattle.machine.proofs.Inputs.{fit}
use Rattle.machine.proofs.Runs.{weeks_rest}
use Rattle.machine.proofs.Sanity.{opening_sane, week_kept}
use Rattle.machine.proofs.RunInput.run.Goals as goal

-- the week that was run is the one at which the loop is
week_is : (P : Plant) (weeks : ℕ → WeekInput) (s : State) (w k : ℕ) (r : Step) → r ≡ run_week P (weeks k) s → k ≡ w
    → r ≡ run_week P (weeks w) s
week_is P weeks s w k r e h = rw (← h) e

pub loop-week-init : goal.loop-week-init
unfolding run
loop-week-init c =
    let e = c.opening_state-state.ensures in
    (rw e (opening_sane _ _ c.args.self.plant.accepted), rw (e, sub-zero))

pub loop-week-preserved : goal.loop-week-preserved
loop-week-preserved c =
    let b = c.loop-week in
    let input = c.args.self in
    let known : b.week < input.plant.shape.weeks = omega (arith, c.from-week-end.ensures) in
    let ran = week_is (plant_in input.plant) (week_in input) b.state b.week _ _ c.in_ok-state.ensures (omega arith) in (
      week_kept _ _ input.plant.accepted (slots_in_run input) (fit input) known b.invariant.0 _ ran refl,
      weeks_rest (plant_in input.plant) (week_in input) input.plant.shape.weeks b.week known b.state _ ran ∙ b.invariant.1,
    )

pub returns-in_err-state : goal.returns-in_err-state
returns-in_err-state c =
    let b = c.loop-week in
    let input = c.args.self in
    let known : b.week < input.plant.shape.weeks = omega (arith, c.from-week-end.ensures) in
    let p = err_from_is_err_and c.from_residual.result c.from_residual.ensures.1 in
    let ran = week_is (plant_in input.plant) (week_in input) b.state b.week _ _ c.in_err-state.ensures (omega arith) in
    rw (p.1, p.2) (weeks_rest (plant_in input.plant) (week_in input) input.plant.shape.weeks b.week known b.state _ ran ∙ b.invariant.1)
