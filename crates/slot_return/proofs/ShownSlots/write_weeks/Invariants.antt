-- `slot_return::ShownSlots::write_weeks` meets its contract: the loop has stored the slots of the weeks before `week`. Assumes nothing.
use mathlib.Core.Path.{◌≡◌}
use lib.ListN.{length}
use Rattle.mathematics.specs.Below.{sum_below, join_below}
use Rattle.numbers.specs.Number.{store}
use Rattle.slot_file.specs.File.{slot_bytes}
use Rattle.slot_return.specs.Bodies.{count_in, week_in}
use Rattle.slot_return.proofs.ShownSlots.write_weeks.Given as goal

abbrev pub invariant-loop-week : goal.invariant-loop-week
invariant-loop-week l =
    (l.first ≡ sum_below l.week (count_in l.self)) × (length l.out ≡ length l.initial.out)
    × (l.out ≡ store l.initial.out 0 (join_below l.week (λ w. slot_bytes (week_in l.self w))))
