-- Every range of a plant's numbers, as paper 01 lists them under "Files", of section 12 as request 2026-02 has it, and of the opening backlog by kind,
-- as request 2026-03 has it. Assumes nothing.
use Rattle.std.specs.Prelude.{ℕ, ◌≤◌, ◌<◌, ◌≡◌, ◌⊎◌, false}
use Rattle.sections.specs.Limits.{most_products, most_customers, most_weeks, most_rate, most_changeover_minutes, most_changeover_cents, most_demand}
use Rattle.sections.specs.Limits.{most_unit_cost, most_storage, nothing_mounted, most_week_minutes}
use Rattle.plant_file.specs.Kinds.{plant_kind, has_mounted}
use Rattle.plant_file.specs.Plant.{LinePlant, Plant}

-- sections 2 to 4 and 12, of a line for N products
pub record LineRanges (N : ℕ) (x : LinePlant) : Type 0 where
  pub rate_least : (i : ℕ) → i < N → 1 ≤ x.rate i
  pub rate_most : (i : ℕ) → i < N → x.rate i ≤ most_rate
  pub minutes_most : (i j : ℕ) → i < N → j < N → x.changeover_minutes i j ≤ most_changeover_minutes
  pub minutes_diagonal : (i : ℕ) → i < N → x.changeover_minutes i i ≡ 0
  pub cents_most : (i j : ℕ) → i < N → j < N → x.changeover_cents i j ≤ most_changeover_cents
  pub cents_diagonal : (i : ℕ) → i < N → x.changeover_cents i i ≡ 0
  pub mounted_known_lem : (x.mounted < N) ⊎ (x.mounted ≡ nothing_mounted)
  pub shut_before_most : x.shut_before ≤ 1

pub record PlantRanges (p : Plant) : Type 0 where
  -- the number of a kind; "Kind 1 reads as 255 and 0"
  pub kind_known : (plant_kind p.kind).number ≡ p.kind
  pub none_mounted : has_mounted p.kind ≡ false → (p.line.mounted ≡ nothing_mounted) × (p.line.shut_before ≡ 0)
  pub products_least : 1 ≤ p.products
  pub products_most : p.products ≤ most_products
  pub customers_least : 1 ≤ p.customers
  pub customers_most : p.customers ≤ most_customers
  pub weeks_least : 1 ≤ p.weeks
  pub weeks_most : p.weeks ≤ most_weeks
  pub line : LineRanges p.products p.line
  pub demand_most : (c i w : ℕ) → c < p.customers → i < p.products → w < p.weeks → p.demand c i w ≤ most_demand
  pub price_most : (c i : ℕ) → c < p.customers → i < p.products → p.price c i ≤ most_unit_cost
  pub backlog_cost_most : (c i : ℕ) → c < p.customers → i < p.products → p.backlog_cost c i ≤ most_unit_cost
  pub inventory_cost_most : (i : ℕ) → i < p.products → p.inventory_cost i ≤ most_unit_cost
  pub storage_ordered : (i : ℕ) → i < p.products → p.least_storage i ≤ p.greatest_storage i
  pub storage_most : (i : ℕ) → i < p.products → p.greatest_storage i ≤ most_storage
  pub opening_inventory_most : (i : ℕ) → i < p.products → p.opening_inventory i ≤ most_storage
  pub opening_backlog_most : (c i : ℕ) → c < p.customers → i < p.products → p.opening_backlog c i ≤ (plant_kind p.kind).backlog
  pub shortest_least : 1 ≤ p.shortest_run
  pub shortest_most : p.shortest_run ≤ p.week_minutes
  pub week_most : p.week_minutes ≤ most_week_minutes
