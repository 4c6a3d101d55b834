-- `slot_return::ShownSlots::write_counts` meets its contract: the loop has stored the counts of the weeks before `week`. Assumes nothing.
use mathlib.Core.Path.{◌≡◌}
use lib.ListN.{length}
use Rattle.numbers.specs.Number.{encode, store}
use Rattle.slot_return.specs.Bodies.{count_in}
use Rattle.slot_return.proofs.ShownSlots.write_counts.Given as goal

abbrev pub invariant-loop-week : goal.invariant-loop-week
invariant-loop-week l = (length l.out ≡ length l.initial.out) × (l.out ≡ store l.initial.out 0 (encode 1 l.week (count_in l.self)))
