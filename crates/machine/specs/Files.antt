-- What the machine's contracts say of its two files, and the updates of a week's end. Assumes nothing.
use Rattle.std.specs.Prelude.{ℕ, ◌≤◌, ◌≡◌, List, [], ◌∷◌, true, not, Result, Err, MatchResult}
use Rattle.sections.specs.declared.Refusal.{Refusal}
use Rattle.sections.specs.declared.Refusal.TheVariants as refusal
use Rattle.sections.specs.declared.Shape.{Shape}
use Rattle.plant_file.specs.Plant.{Plant, plant_of}
use Rattle.slot_file.specs.Slots.{slots_of}
use Rattle.costs.specs.Money.{revenue_of, backlog_charge_of, inventory_charge_of}
use Rattle.machine.specs.declared.BacklogUpdate.{BacklogUpdate}
use Rattle.machine.specs.declared.InventoryUpdate.{InventoryUpdate}
use Rattle.machine.specs.declared.State.{State}
use Rattle.machine.specs.State.{inventory_of, backlog_of, stop, first_met}
use Rattle.machine.specs.Machine.{WeekInput, week_input, sales_due, backlog_after, sales_in_stock, inventory_after, storage_kept}

-- what two files bring into week w
abbrev pub week_of_files : Shape → (plant slots : List ℕ) → ℕ → WeekInput
week_of_files f plant slots w = week_input (plant_of f plant) (slots_of f slots) w

-- the two updates of a week's end, where nothing stops them, and the ranges of their amounts
pub record BacklogUpdated (P : Plant) (v : WeekInput) (s : State) (r : BacklogUpdate) : Type 0 where
  pub due : sales_due P v s ≡ true
  pub backlog : r.backlog.0 ≡ (backlog_after P v s).backlog
  pub revenue : r.revenue.0 ≡ revenue_of P v.sales
  pub charge : r.charge.0 ≡ backlog_charge_of P (backlog_of P.products (backlog_after P v s))
  pub revenue_most : r.revenue.0 ≤ 60000000000000000
  pub charge_most : r.charge.0 ≤ 60000000000000000

pub record InventoryUpdated (P : Plant) (v : WeekInput) (s : State) (r : InventoryUpdate) : Type 0 where
  pub in_stock : sales_in_stock P v s ≡ true
  pub kept : storage_kept P (inventory_after P v s) ≡ true
  pub inventory : r.inventory.0 ≡ (inventory_after P v s).inventory
  pub charge : r.charge.0 ≡ inventory_charge_of P (inventory_of (inventory_after P v s))
  pub charge_most : r.charge.0 ≤ 60000000000000000

-- the same, or the first stop that is met: of 38, and of 39 and 40
abbrev pub BacklogAnswer : Plant → WeekInput → State → Result BacklogUpdate Refusal → Type 0
BacklogAnswer P v s answer =
    MatchResult answer (BacklogUpdated P v s) (λ n. first_met (stop refusal.Backlog (not (sales_due P v s)) ∷ []) ≡ Err n)

abbrev pub InventoryAnswer : Plant → WeekInput → State → Result InventoryUpdate Refusal → Type 0
InventoryAnswer P v s answer =
    MatchResult answer (InventoryUpdated P v s)
    (λ n.
    first_met
    (stop refusal.Inventory (not (sales_in_stock P v s)) ∷ stop refusal.Storage (not (storage_kept P (inventory_after P v s))) ∷ []) ≡ Err n)
