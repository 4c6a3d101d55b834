-- What a plan file shows, week by week, for a plant of a shape. Assumes nothing.
use Rattle.std.specs.Prelude.{ℕ, ◌<◌, ◌≡◌, List}
use Rattle.mathematics.specs.Week.{count}
use Rattle.mathematics.specs.Order.{product_at}
use Rattle.sections.specs.declared.Shape.{Shape}
use Rattle.std.specs.Prelude.{Ok}
use Rattle.costs.specs.Mounted.{Mounted}
use Rattle.plant_file.specs.Plant.{plant_of}
use Rattle.plan_file.specs.Plan.{plan_of}
use Rattle.plan_file.specs.Form.{plan_form}
use Rattle.slot_file.specs.Slots.{Slot, Slots}
use Rattle.rules.specs.Rules.{week_of, mounted_before}
use Rattle.model.specs.RunTables.{mounted_of}
use Rattle.model.specs.Match.{slots_shown}

-- how many slots a week has
unfoldable pub week_count : Shape → (plan : List ℕ) → ℕ → ℕ
week_count f plan w = count f.products (week_of (plan_of f plan).line w)

-- the product of slot k of a week
unfoldable pub week_product : Shape → (plan : List ℕ) → ℕ → ℕ → ℕ
week_product f plan w k = product_at f.products (week_of (plan_of f plan).line w) k

-- what is mounted before a week
unfoldable pub week_mounted : Shape → (plant plan : List ℕ) → ℕ → Mounted
week_mounted f plant plan w = mounted_of f.products (mounted_before f.products (plant_of f plant).line (plan_of f plan).line w)

-- the slots, and those of a week in running order
abbrev pub shown_in : Shape → (plan : List ℕ) → Slots
shown_in f plan = slots_shown f.products (plan_of f plan)

abbrev pub week_slots : Shape → (plan : List ℕ) → ℕ → List Slot
week_slots f plan w = (shown_in f plan).line.week w

-- a good plan in which each slot of each week has its product
pub record Ordered (f : Shape) (plan : List ℕ) : Type 0 where
  pub good : plan_form f plan ≡ Ok f
  pub known : (w k : ℕ) → w < f.weeks → k < week_count f plan w → week_product f plan w k < f.products
