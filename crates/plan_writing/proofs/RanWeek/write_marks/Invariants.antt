-- `plan_writing::RanWeek::write_marks` meets its contract: the loop has stored the marks of the slots below `k`. Assumes nothing.
use mathlib.Core.Path.{◌≡◌}
use Prim.Native.Nat.{◌-◌, ◌<◌}
use lib.ListN.{length}
use Rattle.numbers.specs.Number.{encode, store}
use Rattle.slot_file.specs.Slots.{order_of_slots}
use Rattle.slot_file.specs.Accepted.{slots_in_week}
use Rattle.plan_writing.specs.Bodies.{section_of}
use Rattle.plan_writing.specs.Line.{from_of}
use Rattle.plan_writing.proofs.Marks.{marks}
use Rattle.plan_writing.proofs.RanWeek.write_marks.Given as goal

abbrev pub invariant-loop-k : goal.invariant-loop-k
invariant-loop-k l =
    let f = l.self.row.file.shape in
    let ps = order_of_slots (slots_in_week l.self.row) in
    (length l.out ≡ length l.initial.out) × (l.from < f.products) × (l.from ≡ from_of l.fn.mounted ps l.k)
    × (l.out ≡ store l.initial.out 0 (encode 1 (section_of f l.place).columns (marks l.stride l.rise l.fn.mounted ps l.start (l.k - l.start))))
