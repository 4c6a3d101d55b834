-- `plan_writing::RanFiles::write_inventory` meets its contract: the loop has stored the weeks below `week`, and `inventory` is that before it.
-- Assumes nothing.
use mathlib.Core.Path.{◌≡◌}
use lib.ListN.{length}
use Rattle.mathematics.specs.Below.{join_below}
use Rattle.numbers.specs.Number.{encode, store}
use Rattle.machine.specs.State.{inventory_of}
use Rattle.machine.specs.Run.{after}
use Rattle.plan_writing.specs.Bodies.{Shows}
use Rattle.plan_writing.specs.Files.{ran_plant, ran_slots, tables_in}
use Rattle.plan_writing.proofs.RanFiles.write_inventory.Given as goal

abbrev pub invariant-loop-week : goal.invariant-loop-week
invariant-loop-week l =
    let f = l.self.slots.shape in
    (length l.out ≡ length l.initial.out)
    × (l.out ≡ store l.initial.out 0 (join_below l.week (λ w. encode 4 f.products ((tables_in l.self).inventory w))))
    × (l.row.file ≡ l.self.slots) × (l.row.week ≡ l.week) × (length l.inventory ≡ 16)
    × Shows f.products (inventory_of (after (ran_plant l.self) (ran_slots l.self) l.week)) l.inventory
