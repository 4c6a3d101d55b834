-- `rolling::Rolled::write_inventory` meets its contract: the loop has stored the products below `product`. Assumes nothing.
use mathlib.Core.Path.{◌≡◌}
use Prim.Native.Nat.{◌-◌}
use lib.ListN.{length}
use Rattle.numbers.specs.Number.{encode, store}
use Rattle.plan_file.specs.Accepted.{plan_in}
use Rattle.rolling.proofs.Rolled.write_inventory.Given as goal

abbrev pub invariant-loop-product : goal.invariant-loop-product
invariant-loop-product l =
    (length l.out ≡ length l.initial.out)
    × (l.out ≡ store l.initial.out 0 (encode 4 l.product ((plan_in l.self.files.plan).inventory (l.self.weeks - 1))))
