-- `contents::numbered` meets its contract. Assumes nothing.
use Rattle.std.proofs.Common.{rules, ◌+◌, refl}
use lib.Dec.{eqb}
use borrow.Author.Tests.{tests}
use Rattle.mathematics.proofs.Ranges.{all_in_range}
use Rattle.contents.specs.Contents.{entry}
use Rattle.contents.proofs.numbered.Goals as goal

pub returns : goal.returns
returns c =
    let a = c.args in
    all_in_range (λ i. eqb (entry a.s.now i).number (a.first + i)) a.count _ _ _ c.all.ensures.ran refl (λ x b q k. search (rules, tests))
