-- `slot_file::SlotFile::slot_product` meets its contract. Assumes nothing.
use borrow.Author.Rules.{rules}
use Rattle.slot_file.specs.Slots.{slot_at}
use Rattle.slot_file.proofs.AcceptedFile.{good, inside}
use Rattle.slot_file.proofs.SlotFile.slot_product.Goals as goal

pub slot_place-at-requires : goal.slot_place-at-requires
slot_place-at-requires c = inside c.args.self c.args.j c.requires

pub returns : goal.returns
unfolding slot_at
returns c = search (rules, (good c.args.self).product)
