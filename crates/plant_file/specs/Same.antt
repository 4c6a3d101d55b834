-- When two plants have the same numbers in sections 2 to 12, within the first's counts, but for section 12's second byte (requests 2026-02 and
-- 2026-03); the kind and the counts are not compared. Assumes nothing.
use Rattle.std.specs.Prelude.{ℕ, ◌<◌, ◌≡◌}
use Rattle.plant_file.specs.Plant.{Plant}

pub record SamePlant (a b : Plant) : Type 0 where
  pub rate : (i : ℕ) → i < a.products → a.line.rate i ≡ b.line.rate i
  pub changeover_minutes : (i j : ℕ) → i < a.products → j < a.products → a.line.changeover_minutes i j ≡ b.line.changeover_minutes i j
  pub changeover_cents : (i j : ℕ) → i < a.products → j < a.products → a.line.changeover_cents i j ≡ b.line.changeover_cents i j
  pub mounted : a.line.mounted ≡ b.line.mounted
  pub demand : (c i w : ℕ) → c < a.customers → i < a.products → w < a.weeks → a.demand c i w ≡ b.demand c i w
  pub price : (c i : ℕ) → c < a.customers → i < a.products → a.price c i ≡ b.price c i
  pub backlog_cost : (c i : ℕ) → c < a.customers → i < a.products → a.backlog_cost c i ≡ b.backlog_cost c i
  pub inventory_cost : (i : ℕ) → i < a.products → a.inventory_cost i ≡ b.inventory_cost i
  pub least_storage : (i : ℕ) → i < a.products → a.least_storage i ≡ b.least_storage i
  pub greatest_storage : (i : ℕ) → i < a.products → a.greatest_storage i ≡ b.greatest_storage i
  pub opening_inventory : (i : ℕ) → i < a.products → a.opening_inventory i ≡ b.opening_inventory i
  pub opening_backlog : (c i : ℕ) → c < a.customers → i < a.products → a.opening_backlog c i ≡ b.opening_backlog c i
  pub shortest_run : a.shortest_run ≡ b.shortest_run
  pub week_minutes : a.week_minutes ≡ b.week_minutes
