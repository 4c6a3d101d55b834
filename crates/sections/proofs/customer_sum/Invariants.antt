-- `sections::customer_sum` meets its contract: the loop has summed the numbers of the customers below `customer`. Assumes nothing.
use Rattle.std.proofs.Common.{◌≡◌, ◌+◌, ◌*◌, ◌≤◌}
use Rattle.mathematics.specs.Below.{sum_below}
use Rattle.contents.specs.Contents.{cell}
use Rattle.sections.proofs.customer_sum.Given as goal

abbrev pub invariant-loop-customer : goal.invariant-loop-customer
invariant-loop-customer l =
    (l.sum ≡ sum_below l.customer (λ c. cell 4 l.s l.section ((c * l.f.products + l.product) * l.f.weeks + l.week)))
    × (l.sum ≤ l.customer * 4294967295)
