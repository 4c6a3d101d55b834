-- `slot_file::PairSales::sales` meets its contract. Assumes nothing.
use mathlib.Core.Path.{◌∙◌}
use native.Mathlib.Nat.{div-add-mod'}
use Rattle.slot_file.specs.Slots.{slots_of}
use Rattle.slot_file.proofs.AcceptedFile as accepted
use Rattle.slot_file.proofs.PairSales.sales.Goals as goal

pub pair_number-requires : goal.pair_number-requires
pair_number-requires c =
    let a = c.args.self in
    (record { holds = accepted.sales a.file; known = a.known; at = a.begins }, c.requires)

pub returns : goal.returns
unfolding slots_of
returns c =
    let r = c.pair_number.ensures in
    (r.0 ∙ rw (div-add-mod' c.args.self.pair c.args.self.file.shape.products), r.1)
