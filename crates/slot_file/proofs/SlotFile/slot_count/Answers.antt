-- `slot_file::SlotFile::slot_count` meets its contract. Assumes nothing.
use borrow.Author.Rules.{rules}
use Rattle.slot_file.specs.Slots.{slot_count}
use Rattle.slot_file.proofs.AcceptedFile.{good, count_inside}
use Rattle.slot_file.proofs.SlotFile.slot_count.Goals as goal

pub cell_in-requires : goal.cell_in-requires
cell_in-requires c = count_inside c.args.self c.args.week c.requires

pub returns : goal.returns
unfolding slot_count
returns c = search (rules, (good c.args.self).few)
