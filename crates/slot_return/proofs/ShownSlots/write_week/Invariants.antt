-- `slot_return::ShownSlots::write_week` meets its contract: the loop has stored the week's slots before `k`. Assumes nothing.
use mathlib.Core.Path.{◌≡◌}
use lib.ListN.{length}
use Rattle.mathematics.specs.Below.{join_below}
use Rattle.numbers.specs.Number.{store}
use Rattle.slot_return.proofs.ShownFile.{slot_in}
use Rattle.slot_return.proofs.ShownSlots.write_week.Given as goal

abbrev pub invariant-loop-k : goal.invariant-loop-k
invariant-loop-k l = (length l.out ≡ length l.initial.out) × (l.out ≡ store l.initial.out 0 (join_below l.k (slot_in l.self l.week)))
