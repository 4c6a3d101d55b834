-- `passed_plan::slot_total` meets its contract: the loop has added the slots of the weeks before `week`. Assumes nothing.
use mathlib.Core.Path.{◌≡◌}
use Prim.Native.Nat.{◌≤◌, ◌*◌}
use Rattle.mathematics.specs.Below.{sum_below}
use Rattle.passed_plan.specs.Shown.{week_count}
use Rattle.passed_plan.proofs.slot_total.Given as goal

abbrev pub invariant-loop-week : goal.invariant-loop-week
invariant-loop-week l = (l.sum ≡ sum_below l.week (week_count l.fn.plan.shape l.fn.plan.bytes.now)) × (l.sum ≤ l.week * 255)
