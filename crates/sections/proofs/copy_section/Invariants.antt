-- `sections::copy_section` meets its contract: the loop has copied the bytes below `j`. Assumes nothing.
use Rattle.std.proofs.Common.{length, ◌≡◌}
use Rattle.numbers.specs.Number.{part, store}
use Rattle.sections.proofs.copy_section.Given as goal

abbrev pub invariant-loop-j : goal.invariant-loop-j
invariant-loop-j l = (length l.out ≡ length l.initial.out) × (l.out ≡ store l.initial.out 0 (part l.s l.e.offset l.j))
