-- What a changeover takes. Assumes nothing.
use Rattle.std.specs.Prelude.{ℕ, ◌≤◌, ◌≡◌}
use Rattle.sections.specs.Limits.{most_changeover_minutes, most_changeover_cents}
use Rattle.units.specs.declared.Changeover.{Changeover}
use Rattle.plant_file.specs.Plant.{LinePlant}
use Rattle.std.specs.Prelude.{None, Some}
use Rattle.costs.specs.Mounted.{Mounted}

-- the lookup of a changeover from one product to another, in a line's minutes or its cents: for the clock, the profit and rules 36 and 41
unfoldable pub changeover_between : (table : ℕ → ℕ → ℕ) (from to : ℕ) → ℕ
changeover_between table from to = table from to

-- the changeover from what is mounted to a product, in a table of the line; from nothing there is none
abbrev pub changeover_to : (table : ℕ → ℕ → ℕ) → Mounted → ℕ → ℕ
changeover_to table None p = 0
changeover_to table (Some q) p = changeover_between table q p

-- a changeover as it was looked up, and its ranges
pub record LookedUp (line : LinePlant) (from : Mounted) (product : ℕ) (r : Changeover) : Type 0 where
  pub minutes : r.minutes.0 ≡ changeover_to line.changeover_minutes from product
  pub cents : r.cents.0 ≡ changeover_to line.changeover_cents from product
  pub minutes_most : r.minutes.0 ≤ most_changeover_minutes
  pub cents_most : r.cents.0 ≤ most_changeover_cents
