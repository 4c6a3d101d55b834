-- `contents::section_start` meets its contract: the next body begins within 4 bytes' reach. Assumes nothing.
use Rattle.std.proofs.Common.{◌≡◌, ◌+◌, arith, ◌∙◌, ap}
use Rattle.contents.specs.File.{start}
use Rattle.contents.proofs.Entries.{start_zero, start_next, start_below}
use Rattle.contents.proofs.section_start.Goals as goal

pub loop-i-init : goal.loop-i-init
loop-i-init c = omega (arith, start_zero c.args.lengths.now)

pub overflow_add-at-in-loop-i : goal.overflow_add-at-in-loop-i
overflow_add-at-in-loop-i c =
    let l = c.args.lengths.now in
    let next = c.loop-i.i + 1 in
    omega (arith, c.loop-i.invariant, start_next l c.loop-i.i, start_below l next (omega arith), c.requires.1)

pub loop-i-preserved : goal.loop-i-preserved
loop-i-preserved c = omega (arith, c.loop-i.invariant, start_next c.args.lengths.now c.loop-i.i)

pub returns : goal.returns
returns c =
    let l = c.args.lengths.now in
    let e : c.loop-i.i ≡ c.args.place = omega arith in
    let at = c.loop-i.invariant ∙ ap (start l) e in
    (at, omega (arith, at, start_below l c.args.place c.requires.0, c.requires.1))
