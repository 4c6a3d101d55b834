-- `plan_writing::RanFiles::write_backlog_row` meets its contract: the loop has stored the weeks below `week`. Assumes nothing.
use mathlib.Core.Path.{◌≡◌}
use Prim.Native.Nat.{◌+◌, ◌*◌, ◌/◌, ◌%◌, ◌≤◌}
use lib.ListN.{length}
use Rattle.numbers.specs.Number.{encode, store}
use Rattle.sections.specs.Limits.{most_demand, most_opening_backlog}
use Rattle.machine.specs.State.{backlog_of}
use Rattle.machine.specs.Run.{after}
use Rattle.plan_writing.specs.Files.{ran_plant, ran_slots, tables_in}
use Rattle.plan_writing.proofs.RanFiles.write_backlog_row.Given as goal

abbrev pub invariant-loop-week : goal.invariant-loop-week
invariant-loop-week l =
    let n = l.self.slots.shape.products in
    (length l.out ≡ length l.initial.out)
    × (l.backlog ≡ backlog_of n (after (ran_plant l.self) (ran_slots l.self) l.week) (l.pair / n) (l.pair % n))
    × (l.backlog ≤ most_opening_backlog + most_demand * l.week)
    × (l.out ≡ store l.initial.out 0 (encode 4 l.week ((tables_in l.self).backlog (l.pair / n) (l.pair % n))))
