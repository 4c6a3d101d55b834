-- `sections::diagonal_zero` meets its contract. Assumes nothing.
use Rattle.std.proofs.Common.{rules, ◌+◌, ◌*◌, refl}
use lib.Dec.{eqb}
use borrow.Author.Tests.{tests}
use Rattle.mathematics.proofs.Ranges.{all_in_range}
use Rattle.contents.specs.Contents.{cell}
use Rattle.sections.specs.Section.{diagonal_zero}
use Rattle.sections.proofs.diagonal_zero.Goals as goal

pub returns : goal.returns
unfolding diagonal_zero cell
returns c =
    let a = c.args in
    all_in_range (λ j. eqb (cell a.k a.s.now a.i (j * a.n + j)) 0) a.n _ _ _ c.all.ensures.ran refl (λ x b q k. search (rules, tests))
