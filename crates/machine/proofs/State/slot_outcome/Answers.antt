-- `machine::State::slot_outcome` meets its contract. Assumes nothing.
use borrow.Author.Rules.{rules}
use borrow.Author.Tests.{tests}
use native.Mathlib.Omega.{arith}
use Rattle.machine.specs.Machine.{slot_stops}
use Rattle.machine.proofs.Plants.{few}
use Rattle.machine.proofs.State.slot_outcome.Goals as goal

pub has_run-requires : goal.has_run-requires
has_run-requires c = omega (arith, (few c.args.plant).products, c.requires.0)

pub returns-then-has_run : goal.returns-then-has_run
unfolding slot_stops
returns-then-has_run c = rw (← c.has_run.ensures, c.if-has_run.true)

pub returns-then-slot-shortest_run : goal.returns-then-slot-shortest_run
unfolding slot_stops
returns-then-slot-shortest_run c = rw (← c.has_run.ensures, c.if-has_run.false, ← c.shortest_run.ensures.0) (search (rules, tests))

pub returns-then-week_minutes-clock : goal.returns-then-week_minutes-clock
unfolding slot_stops
returns-then-week_minutes-clock c =
    rw (← c.has_run.ensures, c.if-has_run.false, ← c.shortest_run.ensures.0, ← c.week_minutes.ensures.0, ← c.clock_after-clock.ensures) (search (rules, tests))

pub returns : goal.returns
unfolding slot_stops
returns c =
    rw (← c.has_run.ensures, c.if-has_run.false, ← c.shortest_run.ensures.0, ← c.week_minutes.ensures.0, ← c.clock_after-clock.ensures) (search (rules, tests))
