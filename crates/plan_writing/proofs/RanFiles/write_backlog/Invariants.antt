-- `plan_writing::RanFiles::write_backlog` meets its contract: the loop has stored the rows of the pairs below `pair`. Assumes nothing.
use mathlib.Core.Path.{◌≡◌}
use Prim.Native.Nat.{◌/◌, ◌%◌}
use lib.ListN.{length}
use Rattle.mathematics.specs.Below.{join_below}
use Rattle.numbers.specs.Number.{encode, store}
use Rattle.plan_writing.specs.Files.{tables_in}
use Rattle.plan_writing.proofs.RanFiles.write_backlog.Given as goal

abbrev pub invariant-loop-pair : goal.invariant-loop-pair
invariant-loop-pair l =
    let f = l.self.slots.shape in
    (length l.out ≡ length l.initial.out)
    × (l.out ≡ store l.initial.out 0 (join_below l.pair (λ q. encode 4 f.weeks ((tables_in l.self).backlog (q / f.products) (q % f.products)))))
