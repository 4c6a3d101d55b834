-- `contents::write_contents` meets its contract: kind, count and entries, each stored where the one before ends. Assumes nothing.
use borrow.Rule.Slice.PartMut.{put_mid}
use native.Mathlib.Omega.{arith}
use mathlib.Core.Path.{ap, ◌∙◌}
use mathlib.Core.List.{List}
use Prim.Native.Nat.{ℕ, ◌-◌}
use lib.ListN.{length}
use Rattle.mathematics.specs.Below.{join_below}
use Rattle.numbers.specs.Number.{digits, store}
use Rattle.numbers.proofs.Store.{store_three, part_store}
use Rattle.contents.specs.File.{entry_bytes, contents_bytes}
use Rattle.contents.proofs.write_contents.Goals as goal

pub returns : goal.returns
unfolding contents_bytes
returns c =
    let a = c.args in
    let out = c.write-2.new.out in
    let l = a.lengths.now in
    let kind = digits 1 a.kind in
    let count = digits 1 (length l) in
    let entries = join_below (length l) (entry_bytes a.first l) in
    ap (put_mid 2 (length out - 2) out) c.write_entries.ensures
    ∙ (part_store out 2 entries (omega arith)
    ∙ (ap (λ (s : List ℕ). store s 2 entries) (c.write-2.ensures ∙ ap (λ (s : List ℕ). store s 1 count) c.write.ensures)
    ∙ store_three a.out.now kind count entries))
