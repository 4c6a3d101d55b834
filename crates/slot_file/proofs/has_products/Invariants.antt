-- `slot_file::has_products` meets its contract: the loop has tried the slots below `j`. Assumes nothing.
use Rattle.std.proofs.Common.{◌≡◌}
use lib.Dec.{ltb}
use Rattle.mathematics.specs.Below.{all_below}
use Rattle.slot_file.specs.Slots.{slot_at}
use Rattle.slot_file.proofs.has_products.Given as goal

abbrev pub invariant-loop-j : goal.invariant-loop-j
invariant-loop-j l = l.known ≡ all_below l.j (λ q. ltb (slot_at l.s q).product l.n)
