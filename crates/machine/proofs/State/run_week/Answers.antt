-- `machine::State::run_week` meets its contract. Assumes nothing.
use mathlib.Core.Path.{sym, ◌∙◌}
use Rattle.std.proofs.lemmas.Result.{err_from_is_err_and}
use Rattle.plant_file.specs.Accepted.{plant_in}
use Rattle.machine.specs.Input.{slots_in_run, week_in}
use Rattle.machine.proofs.Inputs.{fit}
use Rattle.machine.proofs.Runs.{week_rest}
use Rattle.machine.proofs.Sanity.{begin_sane, week_slots_kept}
use Rattle.machine.proofs.State.run_week.Goals as goal

pub run_slots-requires : goal.run_slots-requires
run_slots-requires c = (c.requires.0, rw c.week_begin.ensures (begin_sane c.requires.1))

pub week_end-requires : goal.week_end-requires
week_end-requires c =
    let input = c.args.input in
    let ran = rw c.week_begin.ensures at c.in_ok-run_slots.ensures in
    (c.requires.0, week_slots_kept _ _ input.plant.accepted (slots_in_run input) (fit input) c.requires.0 c.requires.1 _ (sym ran))

pub returns-in_err-run_slots : goal.returns-in_err-run_slots
returns-in_err-run_slots c =
    let input = c.args.input in
    let p = err_from_is_err_and c.from_residual.result c.from_residual.ensures.1 in
    rw (p.1, p.2) (week_rest (plant_in input.plant) (week_in input c.args.week) c.args.self _ (rw c.week_begin.ensures at c.in_err-run_slots.ensures))

pub returns : goal.returns
returns c =
    let input = c.args.input in
    c.week_end.ensures
    ∙ week_rest (plant_in input.plant) (week_in input c.args.week) c.args.self _ (rw c.week_begin.ensures at c.in_ok-run_slots.ensures)
