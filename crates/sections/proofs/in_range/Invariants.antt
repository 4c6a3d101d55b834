-- `sections::in_range` meets its contract: the loop has tried the numbers below `j`. Assumes nothing.
use Rattle.std.proofs.Common.{◌≡◌, ◌+◌}
use Rattle.mathematics.specs.Below.{all_below, within}
use Rattle.contents.specs.Contents.{cell}
use Rattle.sections.proofs.in_range.Given as goal

abbrev pub invariant-loop-j : goal.invariant-loop-j
invariant-loop-j l = l.within ≡ all_below l.j (λ q. within l.lo l.hi (cell l.k l.s l.i (l.from + q)))
