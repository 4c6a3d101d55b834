-- The planning model of source 004, section 3, as paper 01 amends it: its constraints on a plan's tables, and its objective.
-- Each field or definition cites its equation number; weeks count from 0 here, from 1 in the source. Assumes nothing.
use Rattle.std.specs.Prelude.{ℕ, ◌+◌, ◌*◌, ◌-◌, ◌≤◌, ◌<◌, ◌≡◌, ◌⊎◌, cond, eqb, ℤ, pos, ◌-ℤ◌}
use Rattle.mathematics.specs.Below.{sum_below}
use Rattle.mathematics.specs.Week.{NoProduct}
use Rattle.plant_file.specs.Plant.{LinePlant, Plant}
use Rattle.plan_file.specs.Plan.{LinePlan, Plan}
use Rattle.rules.specs.Rules.{week_of, mounted_before, backlog_before, inventory_before}

-- the sum over the indices below n other than k
abbrev pub sum_others : ℕ → ℕ → (ℕ → ℕ) → ℕ
sum_others n k f = sum_below n (λ i. cond (eqb i k) 0 (f i))

-- the binary variables: E, F, L, Z and ZF are 0 or 1
pub record Binary (P : Plant) (x : Plan) : Type 0 where
  pub assigned : (w i : ℕ) → w < P.weeks → i < P.products → x.line.assigned w i ≤ 1
  pub first : (w i : ℕ) → w < P.weeks → i < P.products → x.line.first w i ≤ 1
  pub last : (w i : ℕ) → w < P.weeks → i < P.products → x.line.last w i ≤ 1
  pub changeover : (w i j : ℕ) → w < P.weeks → i < P.products → j < P.products → x.line.changeover w i j ≤ 1
  pub week_changeover : (w i j : ℕ) → w < P.weeks → i < P.products → j < P.products → x.line.week_changeover w i j ≤ 1

-- the constraints of week w on a line's products, of N, and their order
pub record OrderModel (N : ℕ) (x : LinePlan) (w : ℕ) : Type 0 where
  -- (2), (3): one first and one last product
  pub one_first : sum_below N (x.first w) ≡ 1
  pub one_last : sum_below N (x.last w) ≡ 1
  -- (4), (5): each of them processed
  pub first_assigned : (i : ℕ) → i < N → x.first w i ≤ x.assigned w i
  pub last_assigned : (i : ℕ) → i < N → x.last w i ≤ x.assigned w i
  -- no changeover from a product to itself within a week: the source has no such variable, paper 01 has it 0
  pub not_itself : (i : ℕ) → i < N → x.changeover w i i ≡ 0
  -- (6), (7): one product before each but the first, one after each but the last
  pub into : (j : ℕ) → j < N → sum_others N j (λ i. x.changeover w i j) + x.first w j ≡ x.assigned w j
  pub out : (i : ℕ) → i < N → sum_others N i (λ j. x.changeover w i j) + x.last w i ≡ x.assigned w i
  -- (10), with M = N + 1, more than any order index: where Z is 1 the order index rises
  pub rises : (i j : ℕ) → i < N → j < N → x.position w i + 1 ≤ x.position w j + (N + 1) * (1 - x.changeover w i j)
  -- (11), with M = N: no order index where a product is not processed
  pub absent : (i : ℕ) → i < N → x.position w i ≤ N * x.assigned w i
  -- (12), whose lower bound F paper 01 raises to E: the order indices are from 1 to the count of products processed
  pub least_index : (i : ℕ) → i < N → x.assigned w i ≤ x.position w i
  pub most_index : (i : ℕ) → i < N → x.position w i ≤ sum_below N (x.assigned w)

-- the constraints of week w on a line's minutes
pub record TimeModel (N shortest week : ℕ) (l : LinePlant) (x : LinePlan) (w : ℕ) : Type 0 where
  -- (13): processing times
  pub shortest_run : (i : ℕ) → i < N → shortest * x.assigned w i ≤ x.minutes w i
  pub longest_run : (i : ℕ) → i < N → x.minutes w i ≤ week * x.assigned w i
  -- (14), and (15) for a week with nothing mounted before, whose ZF is 0: processing and changeovers within the week
  pub time : sum_below N (x.minutes w)
      + sum_below N (λ i. sum_below N (λ j. (x.changeover w i j + x.week_changeover w i j) * l.changeover_minutes i j)) ≤ week

-- the changeovers into a line's week w: (8), one into the first product, and (9), one out of what is mounted before the week, "the last product
-- of the last producing week" (request 2026-01) or what the plant begins with (2026-02); none in a shut week or with nothing mounted
pub record BetweenModel (N : ℕ) (l : LinePlant) (x : LinePlan) (w : ℕ) : Type 0 where
  pub into_first : (j : ℕ) → j < N → sum_below N (λ i. x.week_changeover w i j) ≡ x.first w j * sum_below N (mounted_before N l x w)
  pub out_of_mounted : (i : ℕ) → i < N → sum_below N (λ j. x.week_changeover w i j) ≡ mounted_before N l x w i * sum_below N (x.first w)

-- the constraints of week w on its grams
pub record AmountModel (P : Plant) (x : Plan) (w : ℕ) : Type 0 where
  -- (16): production
  pub produced : (i : ℕ) → i < P.products → x.production w i ≡ P.line.rate i * x.line.minutes w i
  -- (17), (18): backlog and inventory, as sums on both sides
  pub backlogs : (c i : ℕ) → c < P.customers → i < P.products → x.backlog c i w + x.sales c i w ≡ backlog_before P x w c i + P.demand c i w
  pub inventories : (i : ℕ) → i < P.products
      → x.inventory w i + sum_below P.customers (λ c. x.sales c i w) ≡ inventory_before P x w i + x.production w i
  -- (19): storage
  pub storage_least : (i : ℕ) → i < P.products → P.least_storage i ≤ x.inventory w i
  pub storage_most : (i : ℕ) → i < P.products → x.inventory w i ≤ P.greatest_storage i

pub record Model (P : Plant) (x : Plan) : Type 0 where
  pub binary : Binary P x
  -- request 2026-01: "A week may now have no product"
  pub order : (w : ℕ) → w < P.weeks → OrderModel P.products x.line w ⊎ NoProduct P.products (week_of x.line w)
  pub times : (w : ℕ) → w < P.weeks → TimeModel P.products P.shortest_run P.week_minutes P.line x.line w
  pub amounts : (w : ℕ) → w < P.weeks → AmountModel P x w
  pub between : (w : ℕ) → w < P.weeks → BetweenModel P.products P.line x.line w

-- (1), in thousandths of a cent: sales, less changeovers within and between weeks, backlog and inventory
unfoldable pub objective : Plant → Plan → ℤ
objective P x =
    pos (sum_below P.customers (λ c. sum_below P.products (λ i. sum_below P.weeks (λ w. P.price c i * x.sales c i w))))
    -ℤ pos (1000 * sum_below P.products (λ i. sum_others P.products i (λ j.
    sum_below P.weeks (λ w. P.line.changeover_cents i j * x.line.changeover w i j))))
    -ℤ pos (1000 * sum_below P.products (λ i. sum_others P.products i (λ j.
    sum_below P.weeks (λ w. P.line.changeover_cents i j * x.line.week_changeover w i j))))
    -ℤ pos (sum_below P.customers (λ c. sum_below P.products (λ i. sum_below P.weeks (λ w. P.backlog_cost c i * x.backlog c i w))))
    -ℤ pos (sum_below P.products (λ i. sum_below P.weeks (λ w. P.inventory_cost i * x.inventory w i)))
