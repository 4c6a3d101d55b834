-- `rolling::Rolled::write_backlog` meets its contract: the loop has stored the pairs below `pair`. Assumes nothing.
use mathlib.Core.Path.{◌≡◌}
use Prim.Native.Nat.{◌/◌, ◌%◌, ◌-◌}
use lib.ListN.{length}
use Rattle.numbers.specs.Number.{encode, store}
use Rattle.plan_file.specs.Accepted.{plan_in}
use Rattle.rolling.proofs.Rolled.write_backlog.Given as goal

abbrev pub invariant-loop-pair : goal.invariant-loop-pair
invariant-loop-pair l =
    (length l.out ≡ length l.initial.out)
    × (l.out ≡ store l.initial.out 0
    (encode 4 l.pair (λ q. (plan_in l.self.files.plan).backlog (q / l.self.files.plant.shape.products) (q % l.self.files.plant.shape.products) (l.self.weeks - 1))))
