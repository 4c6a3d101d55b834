-- `contents::is_placed` meets its contract: `end` is where the body in place `i` has to begin. Assumes nothing.
use Rattle.std.proofs.Common.{arith, ◌≡◌, false}
use lib.Dec.{eqb}
use borrow.Author.Tests.{ne_eqb, eq-eqb}
use native.Mathlib.Numerals.{add-one}
use Rattle.std.proofs.lemmas.Bool.Decides.{nat_tests}
use Rattle.mathematics.proofs.Below.{all_fails}
use Rattle.contents.specs.Contents.{offset, edge, placed}
use Rattle.contents.proofs.Entries.{offset_read, extent_read}
use Rattle.contents.proofs.is_placed.Goals as goal

pub returns-then-e-end : goal.returns-then-e-end
unfolding placed
returns-then-e-end c =
    let a = c.args in
    let i = c.loop-i.i in
    let s = offset_read a.s.now i c.entry_in-e.ensures.0 in
    let e : eqb (offset a.s.now i) (edge a.s.now a.count i) ≡ false = ne_eqb _ _ (omega (arith, s)) in
    rw (all_fails a.count (λ j. eqb (offset a.s.now j) (edge a.s.now a.count j)) i (omega arith) e)

pub loop-i-preserved : goal.loop-i-preserved
loop-i-preserved c =
    let a = c.args in
    let i = c.loop-i.i in
    let s = offset_read a.s.now i c.entry_in-e.ensures.0 in
    let n = extent_read a.s.now i c.entry_in-e.ensures.0 in
    let e = eq-eqb (offset a.s.now i) (edge a.s.now a.count i) (omega (arith, s)) in
    (rw add-one (omega (arith, s)), rw add-one (cc))

pub returns : goal.returns
unfolding placed
returns c =
    let e : c.loop-i.i ≡ c.args.count = omega arith in
    let end = rw e at c.loop-i.invariant.0 in
    let all = rw e at c.loop-i.invariant.1 in
    rw (end, all) (grind (arith, nat_tests))
