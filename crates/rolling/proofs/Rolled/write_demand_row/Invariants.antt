-- `rolling::Rolled::write_demand_row` meets its contract: the loop has stored the weeks below `week`. Assumes nothing.
use mathlib.Core.Path.{◌≡◌}
use Prim.Native.Nat.{◌+◌, ◌/◌, ◌%◌}
use lib.ListN.{length}
use Rattle.numbers.specs.Number.{encode, store}
use Rattle.plant_file.specs.Accepted.{plant_in}
use Rattle.rolling.proofs.Rolled.write_demand_row.Given as goal

abbrev pub invariant-loop-week : goal.invariant-loop-week
invariant-loop-week l =
    let p = plant_in l.self.files.plant in
    (length l.out ≡ length l.initial.out)
    × (l.out ≡ store l.initial.out 0 (encode 4 l.week (λ w. p.demand (l.pair / p.products) (l.pair % p.products) (l.self.weeks + w))))
