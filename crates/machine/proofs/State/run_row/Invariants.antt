-- `machine::State::run_row` meets its contract: the slots below the index have run. Assumes nothing.
use Rattle.machine.proofs.Rows.{Reached}
use Rattle.machine.proofs.State.run_row.Given as goal

abbrev pub invariant-loop-slot : goal.invariant-loop-slot
invariant-loop-slot l = Reached l.plant l.row l.fn.self l.slot-index l.state
