-- `rolling::Rolled::write_demand` meets its contract: the loop has stored the rows of the pairs below `pair`. Assumes nothing.
use mathlib.Core.Path.{◌≡◌}
use Prim.Native.Nat.{◌+◌, ◌/◌, ◌%◌, ◌-◌}
use lib.ListN.{length}
use Rattle.mathematics.specs.Below.{join_below}
use Rattle.numbers.specs.Number.{encode, store}
use Rattle.plant_file.specs.Accepted.{plant_in}
use Rattle.rolling.proofs.Rolled.write_demand.Given as goal

abbrev pub invariant-loop-pair : goal.invariant-loop-pair
invariant-loop-pair l =
    let p = plant_in l.self.files.plant in
    (length l.out ≡ length l.initial.out)
    × (l.out ≡ store l.initial.out 0
    (join_below l.pair (λ q. encode 4 (p.weeks - l.self.weeks) (λ w. p.demand (q / p.products) (q % p.products) (l.self.weeks + w)))))
