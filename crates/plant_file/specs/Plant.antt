-- The numbers of a plant file, section by section, as paper 01 lists them under "Files", and section 12 as request 2026-02 has it. Products,
-- customers and weeks count from 0. Assumes nothing.
use Rattle.std.specs.Prelude.{ℕ, ◌+◌, ◌*◌, cond, List}
use Rattle.contents.specs.Contents.{cell}
use Rattle.sections.specs.declared.Shape.{Shape}
use Rattle.sections.specs.Limits.{nothing_mounted}
use Rattle.plant_file.specs.Kinds.{has_mounted}

-- what belongs to one production line: sections 2 to 4 and 12
pub record LinePlant : Type 0 where
  -- grams a minute of a product
  pub rate : ℕ → ℕ
  -- from one product to another
  pub changeover_minutes : ℕ → ℕ → ℕ
  pub changeover_cents : ℕ → ℕ → ℕ
  -- the product that is mounted before the first week, or `nothing_mounted`; 1 if the week before it was shut, else 0 (request 2026-02)
  pub mounted : ℕ
  pub shut_before : ℕ

pub record Plant : Type 0 where
  -- 1 or 4
  pub kind : ℕ
  pub products : ℕ
  pub customers : ℕ
  pub weeks : ℕ
  pub line : LinePlant
  -- grams, by customer, product and week
  pub demand : ℕ → ℕ → ℕ → ℕ
  -- cents a kilogram, by customer and product
  pub price : ℕ → ℕ → ℕ
  pub backlog_cost : ℕ → ℕ → ℕ
  -- cents a kilogram, by product
  pub inventory_cost : ℕ → ℕ
  -- grams, by product
  pub least_storage : ℕ → ℕ
  pub greatest_storage : ℕ → ℕ
  -- before the first week: inventory (the paper's stock) by product, backlog (its owed) by customer and product, in grams
  pub opening_inventory : ℕ → ℕ
  pub opening_backlog : ℕ → ℕ → ℕ
  -- minutes
  pub shortest_run : ℕ
  pub week_minutes : ℕ

-- the kind, N, C and W
abbrev pub shape_of_plant : Plant → Shape
shape_of_plant p = record { kind = p.kind; products = p.products; customers = p.customers; weeks = p.weeks }

-- ---- section k stands in place k - 1. What a section's number is stays shut above this crate; the records compute

-- sections 2, 3 and 4: rate by product; changeover minutes, then cents, N by N, row from, column to
unfoldable pub rate_in : List ℕ → ℕ → ℕ
rate_in s i = cell 4 s 1 i

unfoldable pub changeover_minutes_in : Shape → List ℕ → ℕ → ℕ → ℕ
changeover_minutes_in f s i j = cell 2 s 2 (i * f.products + j)

unfoldable pub changeover_cents_in : Shape → List ℕ → ℕ → ℕ → ℕ
changeover_cents_in f s i j = cell 4 s 3 (i * f.products + j)

-- sections 5 to 8
unfoldable pub demand_in : Shape → List ℕ → ℕ → ℕ → ℕ → ℕ
demand_in f s c i w = cell 4 s 4 ((c * f.products + i) * f.weeks + w)

unfoldable pub price_in : Shape → List ℕ → ℕ → ℕ → ℕ
price_in f s c i = cell 4 s 5 (c * f.products + i)

unfoldable pub backlog_cost_in : Shape → List ℕ → ℕ → ℕ → ℕ
backlog_cost_in f s c i = cell 4 s 6 (c * f.products + i)

unfoldable pub inventory_cost_in : List ℕ → ℕ → ℕ
inventory_cost_in s i = cell 4 s 7 i

-- section 9: least and greatest, product by product
unfoldable pub least_storage_in : List ℕ → ℕ → ℕ
least_storage_in s i = cell 4 s 8 (2 * i)

unfoldable pub greatest_storage_in : List ℕ → ℕ → ℕ
greatest_storage_in s i = cell 4 s 8 (2 * i + 1)

-- section 10: inventory, then backlog
unfoldable pub opening_inventory_in : List ℕ → ℕ → ℕ
opening_inventory_in s i = cell 4 s 9 i

unfoldable pub opening_backlog_in : Shape → List ℕ → ℕ → ℕ → ℕ
opening_backlog_in f s c i = cell 4 s 9 (f.products + (c * f.products + i))

-- section 11
unfoldable pub shortest_run_in : List ℕ → ℕ
shortest_run_in s = cell 2 s 10 0

unfoldable pub week_minutes_in : List ℕ → ℕ
week_minutes_in s = cell 2 s 10 1

-- section 12; "Kind 1 reads as 255 and 0"
unfoldable pub mounted_in : Shape → List ℕ → ℕ
mounted_in f s = cond (has_mounted f.kind) (cell 1 s 11 0) nothing_mounted

unfoldable pub shut_before_in : Shape → List ℕ → ℕ
shut_before_in f s = cond (has_mounted f.kind) (cell 1 s 11 1) 0

abbrev pub line_of : Shape → List ℕ → LinePlant
line_of f s =
    record {
      rate = rate_in s;
      changeover_minutes = changeover_minutes_in f s;
      changeover_cents = changeover_cents_in f s;
      mounted = mounted_in f s;
      shut_before = shut_before_in f s;
    }

abbrev pub plant_of : Shape → List ℕ → Plant
plant_of f s =
    record {
      kind = f.kind;
      products = f.products;
      customers = f.customers;
      weeks = f.weeks;
      line = line_of f s;
      demand = demand_in f s;
      price = price_in f s;
      backlog_cost = backlog_cost_in f s;
      inventory_cost = inventory_cost_in s;
      least_storage = least_storage_in s;
      greatest_storage = greatest_storage_in s;
      opening_inventory = opening_inventory_in s;
      opening_backlog = opening_backlog_in f s;
      shortest_run = shortest_run_in s;
      week_minutes = week_minutes_in s;
    }
