-- `sections::copy_section` meets its contract: the loop has copied the bytes below `j`. Assumes nothing.
use Rattle.std.proofs.Common.{arith, ◌≡◌, ◌*◌, ◌∙◌, ap, sym}
use lib.ListN.{length-set}
use Rattle.numbers.specs.Number.{Bytes, part, store}
use Rattle.numbers.proofs.Number.{encode_numbers}
use Rattle.contents.specs.Contents.{offset, cell}
use Rattle.contents.proofs.Entries.{offset_read}
use Rattle.sections.proofs.Copies.{copied_more}
use Rattle.sections.proofs.copy_section.Goals as goal

pub loop-j-preserved : goal.loop-j-preserved
loop-j-preserved c =
    let l = c.loop-j in
    let a = c.args in
    let from = offset_read a.s.now a.i c.entry_in-e.ensures.0 in
    let more = copied_more a.out.now a.s.now c.entry_in-e.result.offset l.j (omega arith) (omega (arith, from, c.requires.0.fits)) in
    (rw length-set l.invariant.0, rw l.invariant.1 more)

pub returns : goal.returns
unfolding cell
returns c =
    let a = c.args in
    let bytes : Bytes a.s.now = λ i. (c.type_inv.s i).fits in
    let from = offset_read a.s.now a.i c.entry_in-e.ensures.0 in
    let numbers = encode_numbers a.k a.m a.s.now (offset a.s.now a.i) bytes c.requires.0.fits in
    let all : c.loop-j.j ≡ a.k * a.m = omega arith in
    c.loop-j.invariant.1 ∙ ap (store a.out.now 0) ((λ u. part a.s.now (from u) (all u)) ∙ sym numbers)
