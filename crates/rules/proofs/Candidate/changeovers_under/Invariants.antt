-- `rules::Candidate::changeovers_under` meets its contract: the loop has added the arcs below `arc`. Assumes nothing.
use mathlib.Core.Path.{◌≡◌}
use Prim.Native.Nat.{ℕ, ◌*◌, ◌/◌, ◌%◌, ◌≤◌}
use Rattle.mathematics.specs.Below.{sum_below}
use Rattle.sections.specs.Limits.{most_changeover_minutes, most_changeover_cents}
use Rattle.plant_file.specs.Accepted.{plant_in}
use Rattle.plan_file.specs.Accepted.{plan_in}
use Rattle.plan_file.specs.Tables.{changeover_table_of}
use Rattle.costs.specs.Changeover.{changeover_between}
use Rattle.rules.proofs.Candidate.changeovers_under.Given as goal

-- what an arc of n products takes under its mark
abbrev pub taken : (n : ℕ) (table marks : ℕ → ℕ → ℕ) → ℕ → ℕ
taken n table marks a = marks (a / n) (a % n) * changeover_between table (a / n) (a % n)

abbrev pub invariant-loop-arc : goal.invariant-loop-arc
invariant-loop-arc l =
    let p = plant_in l.self.plant in
    let marks = changeover_table_of l.table (plan_in l.self.plan).line l.week in
    (l.minutes ≡ sum_below l.arc (taken p.products p.line.changeover_minutes marks))
    × (l.cents ≡ sum_below l.arc (taken p.products p.line.changeover_cents marks))
    × (l.minutes ≤ l.arc * most_changeover_minutes)
    × (l.cents ≤ l.arc * most_changeover_cents)
