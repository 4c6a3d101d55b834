-- `plan_writing::RanFiles::write_line` meets its contract: the loop has stored the rows of the weeks below `week` over zeros. Assumes nothing.
use mathlib.Core.Path.{◌≡◌}
use lib.ListN.{length}
use Rattle.mathematics.specs.Below.{join_below}
use Rattle.numbers.specs.Number.{encode, store}
use Rattle.model.specs.RunTables.{mounted_at}
use Rattle.plan_writing.specs.Bodies.{section_of, row_in}
use Rattle.plan_writing.specs.Files.{ran_plant, ran_slots, tables_in}
use Rattle.plan_writing.proofs.RanFiles.write_line.Given as goal

-- from the zeros on
abbrev pub invariant-loop-week : goal.invariant-loop-week
invariant-loop-week l =
    let f = l.self.slots.shape in
    (length l.out ≡ length l.initial.out)
    × (l.out ≡ store l.initial.out 0 (join_below l.week (λ q. encode l.x.width (section_of f l.place).columns (row_in f (tables_in l.self) l.place q))))
    × (l.row.file ≡ l.self.slots) × (l.row.week ≡ l.week)
    × (l.mounted ≡ mounted_at (ran_plant l.self) (ran_slots l.self) l.week)
