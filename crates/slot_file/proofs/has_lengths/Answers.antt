-- `slot_file::has_lengths` meets its contract: section 41 has a byte for each week. Assumes nothing.
use borrow.Author.Rules.{rules}
use native.Mathlib.Omega.{arith}
use mathlib.Core.Path.{ap}
use Rattle.contents.specs.declared.Entry.{Entry}
use Rattle.contents.proofs.Facts.{placed_facts, fits}
use Rattle.sections.proofs.Rows.{width1}
use Rattle.slot_file.proofs.has_lengths.Goals as goal

pub slots_before-requires : goal.slots_before-requires
slots_before-requires c =
    let e = ap (λ (x : Entry). x.length) c.entry_in-e.ensures.0 in
    let h = fits c.args.s.now 3 (placed_facts _ _ c.requires.1) 0 (omega arith) in
    (record { width = width1; listed = omega arith; few = omega arith; fits = omega arith }, search rules)
