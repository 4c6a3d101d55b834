-- `sections::pair_number` meets its contract. Assumes nothing.
use Rattle.std.proofs.Common.{arith, ◌≡◌, ◌∙◌, ◌+◌, ◌*◌, ap}
use Rattle.mathematics.proofs.Join.{table_below}
use Rattle.numbers.specs.Number.{number_at}
use Rattle.contents.specs.Contents.{offset, cell}
use Rattle.sections.proofs.pair_number.Goals as goal

pub read-requires : goal.read-requires
read-requires c =
    (omega arith, omega (arith, c.requires.0.at, c.requires.0.holds.fits, table_below c.requires.0.known c.requires.1))

pub returns : goal.returns
unfolding cell
returns c =
    let a = c.args in
    let e : a.row.at + 4 * a.week ≡ offset a.s.now a.row.section + 4 * (a.row.pair * a.f.weeks + a.week) = omega (arith, c.requires.0.at) in
    (c.read.ensures.0 ∙ ap (number_at 4 a.s.now) e, c.read.ensures.1)
