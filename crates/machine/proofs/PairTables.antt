-- The week's tests, updates and amounts over customers and products, by pair: customer times the count of products, plus product.
-- Assumes nothing.
use Prim.Native.Nat.{ℕ, ◌+◌, ◌*◌, ◌-◌, ◌/◌, ◌%◌, ◌≤◌}
use mathlib.Core.Path.{◌≡◌, ap, ◌∙◌}
use mathlib.Core.Bool.{Bool}
use mathlib.Core.List.{List}
use native.Mathlib.Nat.{div-add-mod'}
use lib.Dec.{leb}
use lib.ListN.{length, get_or}
use Rattle.mathematics.specs.Below.{sum_below, all_below}
use Rattle.mathematics.proofs.Below.{sum_ext}
use Rattle.mathematics.proofs.Tables.{all_ext, all_table, sum_table}
use Rattle.plant_file.specs.Plant.{Plant}
use Rattle.costs.specs.Money.{revenue_of, backlog_charge_of}
use Rattle.machine.specs.declared.State.{State}
use Rattle.machine.specs.State.{backlog_of, with_backlog, update_row}
use Rattle.machine.specs.Machine.{WeekInput, sales_due, backlog_after}
use Rattle.machine.proofs.Flat.{row_first, rows_flat}

-- of n products
module _ (n : ℕ) (v : WeekInput) where
  abbrev pub due_at : List ℕ → ℕ → Bool
  due_at l k = leb (v.sales (k / n) (k % n)) (get_or l k 0 + v.demand (k / n) (k % n))

  abbrev pub backlog_at : ℕ → ℕ → ℕ
  backlog_at k before = before + v.demand (k / n) (k % n) - v.sales (k / n) (k % n)

module _ (n : ℕ) (P : Plant) where
  abbrev pub revenue_at : WeekInput → ℕ → ℕ
  revenue_at v k = P.price (k / n) (k % n) * v.sales (k / n) (k % n)

  -- of the backlog, and of what it becomes
  abbrev pub charge_at : State → ℕ → ℕ
  charge_at s k = P.backlog_cost (k / n) (k % n) * get_or s.backlog k 0

  abbrev pub new_charge_at : WeekInput → List ℕ → ℕ → ℕ
  new_charge_at v l k = P.backlog_cost (k / n) (k % n) * backlog_at n v k (get_or l k 0)

-- the backlog of a pair
pub backlog_at_lem : (n : ℕ) (s : State) (k : ℕ) → backlog_of n s (k / n) (k % n) ≡ get_or s.backlog k 0
unfolding backlog_of
backlog_at_lem n s k = ap (λ (j : ℕ). get_or s.backlog j 0) (div-add-mod' k n)

module _ (P : Plant) (s : State) where
  pub charge_flat : backlog_charge_of P (backlog_of P.products s) ≡ sum_below (P.customers * P.products) (charge_at P.products P s)
  charge_flat =
      let n = P.products in
      sum_table P.customers n (λ c i. P.backlog_cost c i * backlog_of n s c i)
      ∙ sum_ext (P.customers * n) _ (charge_at n P s) (λ k l. rw (backlog_at_lem n s k))

module _ (P : Plant) (v : WeekInput) (s : State) where
  pub due_flat : sales_due P v s ≡ all_below (P.customers * P.products) (due_at P.products v s.backlog)
  unfolding sales_due
  due_flat =
      let n = P.products in
      all_table P.customers n (λ c i. leb (v.sales c i) (backlog_of n s c i + v.demand c i))
      ∙ all_ext (P.customers * n) _ (due_at n v s.backlog) (λ k l. rw (backlog_at_lem n s k))

  pub backlog_flat : backlog_after P v s ≡ with_backlog s (update_row 0 (P.customers * P.products) (backlog_at P.products v) s.backlog)
  unfolding backlog_after
  backlog_flat = ap (with_backlog s) (rows_flat P.customers P.products (λ c i before. before + v.demand c i - v.sales c i) s.backlog)

  pub backlog_new : (backlog_after P v s).backlog ≡ update_row 0 (P.customers * P.products) (backlog_at P.products v) s.backlog
  unfolding with_backlog
  backlog_new = ap (λ (t : State). t.backlog) backlog_flat

  pub charge_new : P.customers * P.products ≤ length s.backlog
      → backlog_charge_of P (backlog_of P.products (backlog_after P v s))
      ≡ sum_below (P.customers * P.products) (new_charge_at P.products P v s.backlog)
  charge_new room =
      let n = P.products in
      charge_flat P (backlog_after P v s)
      ∙ sum_ext (P.customers * n) (charge_at n P (backlog_after P v s)) (new_charge_at n P v s.backlog)
      (λ k l. rw (backlog_new, row_first (P.customers * n) (backlog_at n v) s.backlog room k l))

  pub revenue_flat : revenue_of P v.sales ≡ sum_below (P.customers * P.products) (revenue_at P.products P v)
  revenue_flat = sum_table P.customers P.products (λ c i. P.price c i * v.sales c i)
