-- `contents::is_sized` meets its contract. Assumes nothing.
use Rattle.std.proofs.Common.{rules, get_or, length, refl}
use lib.Dec.{eqb}
use borrow.Author.Tests.{tests}
use Rattle.mathematics.proofs.Ranges.{all_in_range}
use Rattle.contents.specs.Contents.{extent, sized}
use Rattle.contents.proofs.is_sized.Goals as goal

pub returns : goal.returns
unfolding sized
returns c =
    let a = c.args in
    all_in_range (λ i. eqb (extent a.s.now i) (get_or a.lengths.now i 0)) (length a.lengths.now) _ _ _ c.all.ensures.ran refl
    (λ x b q k. search (rules, tests))
