-- `machine::State::run_row` meets its contract: the slots below the index have run. Assumes nothing.
use Rattle.std.proofs.lemmas.Result.{err_from_is_err_and}
use Rattle.machine.proofs.Rows.{row_asks, row_goes, row_stops}
use Rattle.machine.proofs.State.run_row.Goals as goal

pub slot-requires : goal.slot-requires
slot-requires c =
    row_asks c.args.plant c.args.row.now c.args.self c.requires c.loop-slot.slot-index c.loop-slot.state c.loop-slot.invariant c.loop-slot-test.true

pub loop-slot-preserved : goal.loop-slot-preserved
loop-slot-preserved c =
    row_goes c.args.plant c.args.row.now c.args.self c.requires c.loop-slot.slot-index c.loop-slot.state c.loop-slot.invariant c.loop-slot-test.true
    c.in_ok-state.state c.in_ok-state.ensures

pub returns-in_err-state : goal.returns-in_err-state
returns-in_err-state c =
    let p = err_from_is_err_and c.from_residual.result c.from_residual.ensures.1 in
    rw (p.1, p.2)
    (row_stops c.args.plant c.args.row.now c.args.self c.requires c.loop-slot.slot-index c.loop-slot.state c.loop-slot.invariant c.loop-slot-test.true
    _ _ c.in_err-state.ensures)
