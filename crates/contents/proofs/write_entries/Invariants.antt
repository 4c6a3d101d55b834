-- `contents::write_entries` meets its contract: the loop has stored the entries below `extent-index`. Assumes nothing.
use Rattle.std.proofs.Common.{◌≡◌, ◌+◌, ◌*◌}
use Rattle.mathematics.specs.Below.{join_below}
use Rattle.numbers.specs.Number.{store}
use Rattle.contents.specs.File.{start, entry_bytes}
use Rattle.contents.proofs.write_entries.Given as goal

abbrev pub invariant-loop-extent : goal.invariant-loop-extent
invariant-loop-extent l =
    (l.number ≡ l.first + l.extent-index) × (l.offset ≡ start l.lengths l.extent-index) × (l.place ≡ 9 * l.extent-index)
    × (l.out ≡ store l.initial.out 0 (join_below l.extent-index (entry_bytes l.first l.lengths)))
