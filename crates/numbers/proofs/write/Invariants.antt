-- `numbers::write` meets its contract: what the loop has left to store, stored, gives the whole. Assumes nothing.
use Rattle.std.proofs.Common.{◌≡◌, ◌-◌, length}
use lib.Seq.{sets}
use Rattle.numbers.specs.Number.{digits}
use Rattle.numbers.proofs.write.Given as goal

abbrev pub invariant-loop-byte : goal.invariant-loop-byte
invariant-loop-byte l =
    (length l.byte-items ≡ l.k) × (sets l.byte-items l.byte-index (digits (l.k - l.byte-index) l.left) ≡ digits l.k l.v)
