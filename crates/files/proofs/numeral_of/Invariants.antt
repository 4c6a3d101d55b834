-- The loop has read the digits before an index, and those from it on decide.
use Rattle.std.proofs.Common.{drop, ◌≡◌}
use Rattle.std.specs.Prelude.{Some}
use Rattle.files.specs.Numerals.{and_digits, numeral_of}
use Rattle.files.proofs.numeral_of.Given as goal

abbrev pub invariant-loop-digit : goal.invariant-loop-digit
invariant-loop-digit l = and_digits (Some l.n) (drop l.digit-index l.text) ≡ numeral_of l.text
