-- The week's tests, update and charge over products. Assumes nothing.
use Prim.Native.Nat.{ℕ, ◌*◌, ◌-◌, ◌≤◌, ◌<◌}
use mathlib.Core.Path.{◌≡◌}
use mathlib.Core.Bool.{Bool}
use mathlib.Core.List.{List}
use lib.Dec.{leb}
use lib.ListN.{length, get_or}
use Rattle.mathematics.specs.Below.{sum_below, all_below, within}
use Rattle.mathematics.proofs.Below.{sum_ext}
use Rattle.mathematics.proofs.Tables.{all_ext}
use Rattle.plant_file.specs.Plant.{Plant}
use Rattle.costs.specs.Money.{inventory_charge_of}
use Rattle.machine.specs.declared.State.{State}
use Rattle.machine.specs.State.{inventory_of, with_inventory, update_row}
use Rattle.machine.specs.Machine.{WeekInput, sold_of, sales_in_stock, inventory_after, storage_kept}
use Rattle.machine.proofs.Flat.{row_first}

module _ (P : Plant) (v : WeekInput) where
  abbrev pub inventory_at : ℕ → ℕ → ℕ
  inventory_at i before = before - sold_of P v i

  abbrev pub in_stock_at : List ℕ → ℕ → Bool
  in_stock_at l i = leb (sold_of P v i) (get_or l i 0)

  -- of what the inventory becomes
  abbrev pub kept_at : List ℕ → ℕ → Bool
  kept_at l i = within (P.least_storage i) (P.greatest_storage i) (inventory_at i (get_or l i 0))

  abbrev pub new_charge_at : List ℕ → ℕ → ℕ
  new_charge_at l i = P.inventory_cost i * inventory_at i (get_or l i 0)

-- what a loop over the first k products has done where these are all
module _ (P : Plant) (v : WeekInput) (s : State) (k : ℕ) (e : k ≡ P.products) where
  pub in_stock_all : all_below k (in_stock_at P v s.inventory) ≡ sales_in_stock P v s
  unfolding sales_in_stock inventory_of
  in_stock_all = rw e

  pub inventory_all : update_row 0 k (inventory_at P v) s.inventory ≡ (inventory_after P v s).inventory
  unfolding inventory_after with_inventory
  inventory_all = rw e

  module _ (room : P.products ≤ length s.inventory) where
    next : (i : ℕ) → i < P.products → inventory_of (inventory_after P v s) i ≡ inventory_at P v i (get_or s.inventory i 0)
    unfolding inventory_of inventory_after with_inventory
    next i l = row_first P.products (inventory_at P v) s.inventory room i l

    pub kept_all : all_below k (kept_at P v s.inventory) ≡ storage_kept P (inventory_after P v s)
    unfolding storage_kept
    kept_all = rw e (all_ext P.products (kept_at P v s.inventory) _ (λ i l. rw (next i l)))

    pub charge_all : sum_below k (new_charge_at P v s.inventory) ≡ inventory_charge_of P (inventory_of (inventory_after P v s))
    charge_all = rw e (sum_ext P.products (new_charge_at P v s.inventory) _ (λ i l. rw (next i l)))
