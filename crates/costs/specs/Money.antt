-- A week's money in thousandths of a cent, over the week's grams. Assumes nothing.
use Rattle.std.specs.Prelude.{ℕ, ◌*◌}
use Rattle.mathematics.specs.Below.{sum_below}
use Rattle.plant_file.specs.Plant.{Plant}

-- "price times" what is sold, by customer and product
abbrev pub revenue_of : Plant → (ℕ → ℕ → ℕ) → ℕ
revenue_of P sales = sum_below P.customers (λ c. sum_below P.products (λ i. P.price c i * sales c i))

-- "backlog cost times" what is owed, by customer and product
abbrev pub backlog_charge_of : Plant → (ℕ → ℕ → ℕ) → ℕ
backlog_charge_of P backlog = sum_below P.customers (λ c. sum_below P.products (λ i. P.backlog_cost c i * backlog c i))

-- "inventory cost times" what is in stock, by product
abbrev pub inventory_charge_of : Plant → (ℕ → ℕ) → ℕ
inventory_charge_of P inventory = sum_below P.products (λ i. P.inventory_cost i * inventory i)

-- "1000 times the cents"
abbrev pub changeover_charge_of : ℕ → ℕ
changeover_charge_of cents = 1000 * cents
