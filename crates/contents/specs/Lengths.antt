-- The lengths of a file's bodies, as many of the array as there are sections. Assumes nothing.
use Rattle.std.specs.Prelude.{ℕ, List, take}
use Rattle.contents.specs.declared.body_lengths.BodyLengths.{BodyLengths}

abbrev pub lengths_in : BodyLengths → List ℕ
lengths_in x = take x.sections x.lengths
