-- `plan_writing::RanWeek::add_production` meets its contract: the loop has added what the slots below `k` make. Assumes nothing.
use mathlib.Core.Path.{◌≡◌}
use Prim.Native.Nat.{ℕ, ◌+◌, ◌*◌, ◌≤◌, ◌<◌, ◌^◌}
use lib.ListN.{length, get_or}
use Rattle.sections.specs.Limits.{most_storage}
use Rattle.plant_file.specs.Accepted.{plant_in}
use Rattle.slot_file.specs.Accepted.{slots_in_week}
use Rattle.plan_writing.proofs.Amounts.{amounts}
use Rattle.plan_writing.proofs.RanWeek.add_production.Given as goal

-- a slot makes less than 2 ^ 33 grams
abbrev pub invariant-loop-k : goal.invariant-loop-k
invariant-loop-k l =
    (length l.inventory ≡ length l.initial.inventory)
    × ((j : ℕ) → get_or l.inventory j 0 ≡ get_or l.initial.inventory j 0
    + amounts (plant_in l.self.files.plant).line.rate (slots_in_week l.self.row) l.k j)
    × ((j : ℕ) → j < l.self.row.file.shape.products → get_or l.inventory j 0 ≤ most_storage + 2 ^ 33 * l.k)
