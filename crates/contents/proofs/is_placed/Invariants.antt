-- `contents::is_placed` meets its contract: `end` is where the body in place `i` has to begin. Assumes nothing.
use Rattle.std.proofs.Common.{◌≡◌, true}
use lib.Dec.{eqb}
use Rattle.mathematics.specs.Below.{all_below}
use Rattle.contents.specs.Contents.{offset, edge}
use Rattle.contents.proofs.is_placed.Given as goal

abbrev pub invariant-loop-i : goal.invariant-loop-i
invariant-loop-i l = (l.end ≡ edge l.s l.count l.i) × (all_below l.i (λ j. eqb (offset l.s j) (edge l.s l.count j)) ≡ true)
