-- `sections::in_range` meets its contract: the loop has tried the numbers below `j`. Assumes nothing.
use Rattle.std.proofs.Common.{arith, rules, ◌+◌, ◌*◌, ◌≡◌, refl}
use borrow.Author.Tests.{tests}
use native.Mathlib.Nat.{mul-add}
use native.Mathlib.Numerals.{add-one}
use Rattle.contents.specs.Contents.{offset, cell}
use Rattle.contents.proofs.Entries.{offset_read}
use Rattle.sections.specs.Section.{in_range}
use Rattle.sections.proofs.in_range.Goals as goal

pub loop-j-preserved : goal.loop-j-preserved
unfolding cell
loop-j-preserved c =
    let a = c.args in
    let j = c.loop-j.j in
    let place : offset a.s.now a.i + a.k * (a.from + j) ≡ c.entry_in-e.result.offset + a.k * a.from + a.k * j =
    omega (arith, offset_read a.s.now a.i c.entry_in-e.ensures.0, mul-add a.k a.from j) in
    rw (add-one, place) (search (rules, tests))

pub returns : goal.returns
unfolding in_range
returns c = search rules
