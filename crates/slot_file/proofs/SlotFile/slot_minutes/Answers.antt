-- `slot_file::SlotFile::slot_minutes` meets its contract. Assumes nothing.
use borrow.Author.Rules.{rules}
use mathlib.Core.Path.{◌≡◌}
use Rattle.slot_file.specs.Slots.{slot_at}
use Rattle.slot_file.proofs.AcceptedFile.{inside}
use Rattle.slot_file.proofs.SlotReads.{minutes_below}
use Rattle.slot_file.proofs.SlotFile.slot_minutes.Goals as goal

pub slot_place-at-requires : goal.slot_place-at-requires
slot_place-at-requires c = inside c.args.self c.args.j c.requires

pub returns : goal.returns
unfolding slot_at
returns c =
    let a = c.args in
    let e : c.read.result ≡ (slot_at a.self.bytes.now a.j).minutes = rw (← c.slot_place-at.ensures.0) (search rules) in
    (e, rw e (minutes_below a.self.bytes.now a.self.octets a.j))
