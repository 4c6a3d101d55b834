-- `slot_file::is_in_range` meets its contract. Assumes nothing.
use borrow.Author.Rules.{rules}
use native.Mathlib.Nat.{zero-add}
use Rattle.slot_file.proofs.SlotPlaces.{counts_held, slots_held}
use Rattle.slot_file.proofs.is_in_range.Goals as goal

pub slots_before-total-requires : goal.slots_before-total-requires
slots_before-total-requires c = (rw c.from-weeks.ensures (counts_held c.args.f _ _ c.requires), search rules)

pub in_range-requires : goal.in_range-requires
in_range-requires c = rw (zero-add, c.from-weeks.ensures) (counts_held c.args.f _ _ c.requires)

pub has_products-requires : goal.has_products-requires
has_products-requires c =
    let z = c.requires in
    (z.long, rw (c.slots_before-total.ensures.0, c.from-weeks.ensures) (slots_held c.args.f _ _ z))
