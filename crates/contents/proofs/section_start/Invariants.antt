-- `contents::section_start` meets its contract: the loop has passed the bodies below `i`. Assumes nothing.
use Rattle.std.proofs.Common.{◌≡◌}
use Rattle.contents.specs.File.{start}
use Rattle.contents.proofs.section_start.Given as goal

abbrev pub invariant-loop-i : goal.invariant-loop-i
invariant-loop-i l = l.at ≡ start l.lengths l.i
