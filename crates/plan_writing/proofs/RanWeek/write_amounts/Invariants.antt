-- `plan_writing::RanWeek::write_amounts` meets its contract: the loop has stored the amounts of the slots below `k`. Assumes nothing.
use mathlib.Core.Path.{◌≡◌}
use lib.ListN.{length}
use Rattle.numbers.specs.Number.{encode, store}
use Rattle.plant_file.specs.Accepted.{plant_in}
use Rattle.slot_file.specs.Accepted.{slots_in_week}
use Rattle.plan_writing.specs.Line.{factor_in}
use Rattle.plan_writing.proofs.Amounts.{amounts}
use Rattle.plan_writing.proofs.RanWeek.write_amounts.Given as goal

abbrev pub invariant-loop-k : goal.invariant-loop-k
invariant-loop-k l =
    let factor = factor_in (plant_in l.self.files.plant).line.rate l.place in
    (length l.out ≡ length l.initial.out)
    × (l.out ≡ store l.initial.out 0 (encode l.width l.self.row.file.shape.products (amounts factor (slots_in_week l.self.row) l.k)))
