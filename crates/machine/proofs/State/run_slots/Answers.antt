-- `machine::State::run_slots` meets its contract: the row that is lent holds the week's slots. Assumes nothing.
use Rattle.machine.proofs.Plants.{few}
use Rattle.machine.proofs.Inputs.{runnable}
use Rattle.machine.proofs.State.run_slots.Goals as goal

pub week_slots-row-requires : goal.week_slots-row-requires
week_slots-row-requires c = rw c.args.input.same (c.requires.0, (few c.args.input.plant).products)

pub run_row-requires : goal.run_row-requires
run_row-requires c =
    rw (c.as_slice.ensures, c.week_slots-row.ensures, c.args.input.same)
    (runnable c.args.input c.args.week c.requires.0 c.args.self c.requires.1)
