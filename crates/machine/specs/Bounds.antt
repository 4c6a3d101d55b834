-- The bounds that a run keeps, by which no number overflows. Assumes nothing.
use Rattle.std.specs.Prelude.{ℕ, ◌+◌, ◌*◌, ◌-◌, ◌≤◌, ◌<◌, ◌≡◌, length, get_or}
use Rattle.std.specs.Int.Signed.{mag}
use Rattle.sections.specs.declared.Shape.{Shape}
use Rattle.sections.specs.Limits.{most_products, most_weeks, most_rate, most_changeover_cents, most_demand, most_storage, most_opening_backlog, most_week_minutes}
use Rattle.costs.specs.Mounted.{mounted_below}
use Rattle.machine.specs.declared.State.{State}
use Rattle.machine.specs.State.{inventory_of}

-- thousandths of a cent by which the end of a week can move the profit
abbrev pub most_week_money : ℕ
most_week_money = 120000000000000000

-- after w weeks and k slots of the next
pub record Sane (f : Shape) (w k : ℕ) (s : State) : Type 0 where
  pub inventory_long : length s.inventory ≡ 16
  pub backlog_long : length s.backlog ≡ 128
  pub inventory_most : (i : ℕ) → i < f.products → inventory_of s i ≤ most_storage + k * (most_rate * most_week_minutes)
  pub backlog_most : (j : ℕ) → j < f.customers * f.products → get_or s.backlog j 0 ≤ most_opening_backlog + w * most_demand
  pub clock_most : s.line.clock.0 ≤ most_week_minutes
  pub profit_most : mag s.profit.0 ≤ w * most_week_money + k * (1000 * most_changeover_cents)
  pub ran_most : s.line.ran < 65536
  pub mounted_below_lem : mounted_below f.products s.line.mounted

-- the widest of these before a step, when at most all weeks but one are over
abbrev pub Roomy : Shape → State → Type 0
Roomy f s = Sane f (most_weeks - 1) most_products s
