-- `report::PassedFiles::write_week` meets its contract: the lines from slot `k` on, stored, give the whole. Assumes nothing.
use mathlib.Core.Path.{◌≡◌}
use Prim.Native.Nat.{◌*◌, ◌≤◌}
use lib.ListN.{length}
use Rattle.costs.specs.Mounted.{mounted_below}
use Rattle.report.specs.Files.{week_in}
use Rattle.report.proofs.StoredText.{Rest}
use Rattle.report.proofs.WeekText.{lines_in}
use Rattle.report.proofs.PassedFiles.write_week.Given as goal

abbrev pub invariant-loop-k : goal.invariant-loop-k
invariant-loop-k l =
    mounted_below l.self.files.plan.shape.products l.mounted × (l.clock ≤ 80000 * l.k) × (length l.out ≡ length l.initial.out)
    × Rest l.initial.out l.at (week_in l.self l.week) l.p l.out (lines_in l.self l.week l.mounted l.clock l.k)
