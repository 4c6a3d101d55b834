-- `plan_file::lengths_of` meets its contract: the loop has stored the lengths of the bodies below `place`. Assumes nothing.
use mathlib.Core.Path.{◌≡◌}
use lib.ListN.{length, take}
use Rattle.plan_file.specs.Form.{plan_lengths}
use Rattle.plan_file.proofs.lengths_of.Given as goal

abbrev pub invariant-loop-place : goal.invariant-loop-place
invariant-loop-place l = (take l.place l.lengths ≡ take l.place (plan_lengths l.f)) × (length l.lengths ≡ 12)
