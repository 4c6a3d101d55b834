-- `numbers::read` meets its contract: the loop has read the number of the bytes from `i` on. Assumes nothing.
use Rattle.std.proofs.Common.{◌≡◌, ◌+◌, ◌-◌, ◌<◌, ◌^◌}
use Rattle.numbers.specs.Number.{number_at}
use Rattle.numbers.proofs.read.Given as goal

abbrev pub invariant-loop-i : goal.invariant-loop-i
invariant-loop-i l = (l.number ≡ number_at (l.k - l.i) l.s (l.at + l.i)) × (l.number < 256 ^ (l.k - l.i))
