-- Tables of a plan by their names, and the sums of a square of marks. Assumes nothing.
use Rattle.std.specs.Prelude.{ℕ, ◌<◌, ◌≡◌, ◌^◌, length, get_or}
use Rattle.mathematics.specs.Below.{sum_below}
use Rattle.plan_file.specs.Plan.{LinePlan, Plan}
use Rattle.plan_file.specs.declared.ProductTable.{ProductTable}
use Rattle.plan_file.specs.declared.ProductTable.TheVariants.{Assigned, First, Last, Position, Minutes, Production, Inventory}
use Rattle.plan_file.specs.declared.ChangeoverTable.{ChangeoverTable}
use Rattle.plan_file.specs.declared.ChangeoverTable.TheVariants.{Within, Between}
use Rattle.plan_file.specs.declared.PairTable.{PairTable}
use Rattle.plan_file.specs.declared.PairTable.TheVariants.{Sales, Backlog}
use Rattle.plan_file.specs.declared.ArcSums.{ArcSums}

-- E, F, L, O, T, P and V, by week and product
abbrev pub product_table_of : ProductTable → Plan → ℕ → ℕ → ℕ
product_table_of Assigned x = x.line.assigned
product_table_of First x = x.line.first
product_table_of Last x = x.line.last
product_table_of Position x = x.line.position
product_table_of Minutes x = x.line.minutes
product_table_of Production x = x.production
product_table_of Inventory x = x.inventory

-- the place of its section
abbrev pub product_place : ProductTable → ℕ
product_place Assigned = 0
product_place First = 1
product_place Last = 2
product_place Position = 5
product_place Minutes = 6
product_place Production = 7
product_place Inventory = 9

-- the bytes of each of its numbers
abbrev pub product_width : ProductTable → ℕ
product_width Assigned = 1
product_width First = 1
product_width Last = 1
product_width Position = 1
product_width Minutes = 2
product_width Production = 4
product_width Inventory = 4

-- what each of its numbers is below: E, F and L are marks, 0 or 1, the others have their width
abbrev pub most_of : ProductTable → ℕ
most_of Assigned = 2
most_of First = 2
most_of Last = 2
most_of Position = 2 ^ 8
most_of Minutes = 2 ^ 16
most_of Production = 2 ^ 32
most_of Inventory = 2 ^ 32

-- Z and ZF, by week, product before and product after
abbrev pub changeover_table_of : ChangeoverTable → LinePlan → ℕ → ℕ → ℕ → ℕ
changeover_table_of Within x = x.changeover
changeover_table_of Between x = x.week_changeover

-- the place of its section
abbrev pub changeover_place : ChangeoverTable → ℕ
changeover_place Within = 3
changeover_place Between = 4

-- S and Δ, by customer, product and week
abbrev pub pair_table_of : PairTable → Plan → ℕ → ℕ → ℕ → ℕ
pair_table_of Sales x = x.sales
pair_table_of Backlog x = x.backlog

-- the place of its section
abbrev pub pair_place : PairTable → ℕ
pair_place Sales = 8
pair_place Backlog = 10

-- the sums of an N by N square: into each product, over those before it, and out of it, over those after it
pub record SumsOf (N : ℕ) (marks : ℕ → ℕ → ℕ) (r : ArcSums) : Type 0 where
  pub into_long : length r.into ≡ 16
  pub out_long : length r.out ≡ 16
  pub into : (j : ℕ) → j < N → get_or r.into j 0 ≡ sum_below N (λ i. marks i j)
  pub out : (i : ℕ) → i < N → get_or r.out i 0 ≡ sum_below N (λ j. marks i j)
