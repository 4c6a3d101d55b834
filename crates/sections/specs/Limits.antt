-- The limits of a plant's numbers, as paper 01 lists them under "Files". Assumes nothing.
use Rattle.std.specs.Prelude.{ℕ, ◌+◌, ◌*◌}

-- row 3
abbrev pub most_products : ℕ
most_products = 16

abbrev pub most_customers : ℕ
most_customers = 8

abbrev pub most_weeks : ℕ
most_weeks = 26

-- row 5: grams a minute
abbrev pub most_rate : ℕ
most_rate = 100000

-- minutes and cents of a changeover
abbrev pub most_changeover_minutes : ℕ
most_changeover_minutes = 10080

abbrev pub most_changeover_cents : ℕ
most_changeover_cents = 1000000

-- grams a week
abbrev pub most_demand : ℕ
most_demand = 100000000

-- cents a kilogram: price, backlog cost and inventory cost
abbrev pub most_unit_cost : ℕ
most_unit_cost = 100000

-- grams in storage, before the first week too
abbrev pub most_storage : ℕ
most_storage = 4000000000

-- grams owed before the first week: in kind 1, and in kind 4, "may reach 1,600,000,000" (request 2026-03), the wider
abbrev pub most_kind_one_backlog : ℕ
most_kind_one_backlog = 100000000

abbrev pub most_opening_backlog : ℕ
most_opening_backlog = 1600000000

-- "255 for none": no product is mounted before the first week (request 2026-02)
abbrev pub nothing_mounted : ℕ
nothing_mounted = 255

-- minutes
abbrev pub most_week_minutes : ℕ
most_week_minutes = 10080

-- so after any week
abbrev pub most_backlog : ℕ
most_backlog = most_opening_backlog + most_weeks * most_demand
