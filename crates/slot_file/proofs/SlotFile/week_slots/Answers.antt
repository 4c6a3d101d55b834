-- `slot_file::SlotFile::week_slots` meets its contract. Assumes nothing.
use borrow.Author.Rules.{rules}
use native.Mathlib.Omega.{arith}
use Rattle.slot_file.proofs.SlotReads.{week_list, week_below}
use Rattle.slot_file.proofs.SlotFile.week_slots.Goals as goal

pub slot_row-slots-requires : goal.slot_row-slots-requires
slot_row-slots-requires c =
    let file = c.args.self in (
      omega (arith, week_below file.bytes.now file.shape.weeks c.args.week c.requires.0, c.slot_count-count.ensures.0, c.week_start-first.ensures.0),
      search rules,
    )

pub returns : goal.returns
returns c = rw (week_list _ _ _, ← c.slot_count-count.ensures.0, ← c.week_start-first.ensures.0) c.slot_row-slots.ensures
