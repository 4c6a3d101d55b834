-- `contents::write_entries` meets its contract: the loop has stored the entries below `extent-index`. Assumes nothing.
use Rattle.std.proofs.Common.{arith, ◌∙◌, ◌-◌, ◌+◌, ℕ, refl, sym, ap, length, get_or}
use borrow.Rule.Slice.PartMut.{mid_of, put_mid}
use Rattle.numbers.specs.Number.{store}
use Rattle.numbers.proofs.Store.{store_join, part_store}
use Rattle.contents.specs.File.{entry_bytes}
use Rattle.contents.proofs.Entries.{entries_length, entry_of, start_zero, start_next, start_below}
use Rattle.contents.proofs.write_entries.Goals as goal

pub loop-extent-init : goal.loop-extent-init
loop-extent-init c = (omega arith, sym (start_zero c.args.lengths.now), refl, refl)

pub overflow_add-offset-in-loop-extent : goal.overflow_add-offset-in-loop-extent
overflow_add-offset-in-loop-extent c =
    let i = c.loop-extent.extent-index in
    let l = c.args.lengths.now in
    record { fits = omega (arith, start_next l i, start_below l (i + 1) (omega arith), c.requires.0.offsets) }

pub loop-extent-preserved : goal.loop-extent-preserved
loop-extent-preserved c =
    let a = c.args in
    let b = c.loop-extent in
    let i = b.extent-index in
    let l = a.lengths.now in
    let n = length b.out - b.place in
    let whole =
    ap (put_mid b.place n b.out)
    (c.write_entry.ensures ∙ ap (store (mid_of b.place n b.out) 0) (entry_of a.first l i b.number b.offset b.invariant.0 b.invariant.1))
    ∙ part_store b.out b.place (entry_bytes a.first l i) (omega arith) in (
      omega arith,
      ap (λ (x : ℕ). x + get_or l i 0) b.invariant.1 ∙ sym (start_next l i),
      omega arith,
      whole ∙ rw b.invariant.3 (store_join i (entry_bytes a.first l) a.out.now b.place (entries_length a.first l i ∙ sym b.invariant.2)),
    )
