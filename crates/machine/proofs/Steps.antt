-- How a slot and the end of a week end, by the stops that they try, and what the week's tests say of each product. Assumes nothing.
use Rattle.sections.specs.declared.Refusal.{Refusal}
use Rattle.sections.specs.declared.Refusal.TheVariants as refusal
use Prim.Native.Nat.{ℕ, ◌≤◌, ◌<◌}
use Prim.{Unit}
use mathlib.Core.Path.{◌≡◌, refl, sym, ap, ◌∙◌}
use mathlib.Core.Bool.{Bool, true, false, not}
use mathlib.Core.List.{List, [], ◌∷◌}
use native.Mathlib.Omega.{arith}
use lib.IntN.{pos, ◌+ℤ◌, ◌-ℤ◌}
use borrow.Author.Tests.{le-ltb, ltb-false, not-false}
use Rattle.mathematics.specs.Below.{within}
use Rattle.mathematics.proofs.Below.{all_each, within_at}
use Rattle.units.specs.declared.Profit.{Profit}
use Rattle.plant_file.specs.Plant.{LinePlant, Plant}
use Rattle.slot_file.specs.Slots.{Slot}
use Rattle.machine.specs.declared.BacklogUpdate.{BacklogUpdate}
use Rattle.machine.specs.declared.InventoryUpdate.{InventoryUpdate}
use Rattle.machine.specs.declared.State.{State}
use Rattle.std.specs.Prelude.{Err, Ok}
use Rattle.machine.specs.State.{Step, Outcome, inventory_of, backlog_of, has_run, with_inventory, with_backlog, with_profit}
use Rattle.machine.specs.State.{continues, stops, Stop, stop, stop_or, first_met, stepped}
use Rattle.machine.specs.Machine.{clock_after, slot_done, slot_stops, slot_step, WeekInput}
use Rattle.machine.specs.Machine.{sales_due, backlog_after, sales_in_stock, inventory_after, storage_kept, booked, week_done, week_stops, week_end}
use Rattle.machine.specs.Files.{BacklogUpdated, InventoryUpdated}

-- ---- stops tried one after the other
abbrev pub NoneMet : List Stop → Type 0
NoneMet [] = Unit {0}
NoneMet (t ∷ ts) = (t.met ≡ false) × NoneMet ts

no_stop : {n : Refusal} → ◌≡◌ {A = Outcome} (Err n) (Ok tt) → ⊥
no_stop e = let z : ◌≡◌ {A = ℕ} 0 1 = cc in omega arith

one_met : (b : Bool) (n : Refusal) (next : Outcome) → stop_or b n next ≡ Ok tt → (b ≡ false) × (next ≡ Ok tt)
one_met true n next e = absurd (no_stop e)
one_met false n next e = (refl, e)

pub none_met : (ts : List Stop) → first_met ts ≡ Ok tt → NoneMet ts
none_met [] e = tt
none_met (t ∷ ts) e = let r = one_met t.met t.refusal (first_met ts) e in (r.0, none_met ts r.1)

pub met_none : (ts : List Stop) → NoneMet ts → first_met ts ≡ Ok tt
met_none [] h = refl
met_none (t ∷ ts) h = rw h.0 (met_none ts h.1)

-- a step that continues has met no stop
pub continued : (o : Outcome) (s t u : State) → stepped o s t ≡ continues u → (o ≡ Ok tt) × (u ≡ t)
continued (Ok tt) s t u e = (refl, sym (ap (λ (r : Step). r.state) e))
continued (Err n) s t u e = absurd (no_stop (ap (λ (r : Step). r.outcome) e))

-- the stops that are tried later change nothing where one is met
met_first : (t : Stop) (us : List Stop) (n : Refusal) → first_met (t ∷ []) ≡ Err n → first_met (t ∷ us) ≡ Err n
met_first t us n e = go t.met e
  where
    go : (b : Bool) → stop_or b t.refusal (first_met []) ≡ Err n → stop_or b t.refusal (first_met us) ≡ Err n
    go true e = e
    go false e = absurd (no_stop (sym e))

-- ---- a slot
-- what a slot asks so as not to stop
pub record SlotContinues (P : Plant) (l : LinePlant) (x : Slot) (s : State) : Type 0 where
  pub fresh : has_run s x.product ≡ false
  pub long : P.shortest_run ≤ x.minutes
  pub early : clock_after l x s ≤ P.week_minutes

module _ (P : Plant) (l : LinePlant) (x : Slot) (s : State) where
  pub slot_continues : SlotContinues P l x s → slot_step P l x s ≡ continues (slot_done l x s)
  unfolding slot_step slot_stops
  slot_continues h = rw (h.fresh, le-ltb _ _ h.long, le-ltb _ _ h.early)

  pub slot_continued : (t : State) → slot_step P l x s ≡ continues t → (t ≡ slot_done l x s) × SlotContinues P l x s
  unfolding slot_step slot_stops
  slot_continued t e =
      let r = continued (first_met (slot_stops P l x s)) s (slot_done l x s) t e in
      let m = none_met (slot_stops P l x s) r.0 in
      (r.1, record { fresh = m.0; long = ltb-false _ _ m.1.0; early = ltb-false _ _ m.1.1.0 })

-- ---- the end of a week
module _ (P : Plant) (v : WeekInput) (s : State) where
  -- the stops that it tries
  abbrev pub tries : List Stop
  tries = week_stops (sales_due P v s) (sales_in_stock P v s) (storage_kept P (inventory_after P v s))

  -- by the outcome of the three tests
  week_stopped : (n : Refusal) → first_met tries ≡ Err n → week_end P v s ≡ stops s n
  unfolding week_end
  week_stopped n e = rw e

  pub backlog_stopped : (n : Refusal) → first_met (stop refusal.Backlog (not (sales_due P v s)) ∷ []) ≡ Err n → week_end P v s ≡ stops s n
  backlog_stopped n e =
      week_stopped n (met_first (stop refusal.Backlog (not (sales_due P v s)))
      (stop refusal.Inventory (not (sales_in_stock P v s)) ∷ stop refusal.Storage (not (storage_kept P (inventory_after P v s))) ∷ []) n e)

  pub inventory_stopped : sales_due P v s ≡ true → (n : Refusal)
      → first_met (stop refusal.Inventory (not (sales_in_stock P v s)) ∷ stop refusal.Storage (not (storage_kept P (inventory_after P v s))) ∷ []) ≡ Err n
      → week_end P v s ≡ stops s n
  inventory_stopped due n e = week_stopped n (rw due e)

  pub week_stops_lem : (o : Outcome) → o ≡ first_met tries → (n : Refusal) → o ≡ Err n → record { state = s; outcome = o } ≡ week_end P v s
  unfolding week_end
  week_stops_lem o e n d = rw (← e, d)

  pub week_continues : (o : Outcome) → o ≡ first_met tries → o ≡ Ok tt → week_end P v s ≡ continues (week_done P v s)
  unfolding week_end
  week_continues o e d = rw (← e, d)

  pub week_continued : (t : State) → week_end P v s ≡ continues t
      → (t ≡ week_done P v s) × (sales_due P v s ≡ true) × (sales_in_stock P v s ≡ true) × (storage_kept P (inventory_after P v s) ≡ true)
  unfolding week_end
  week_continued t e =
      let r = continued (first_met tries) s (week_done P v s) t e in
      let m = none_met tries r.0 in
      (r.1, not-false _ m.0, not-false _ m.1.0, not-false _ m.1.1.0)

  -- the state after the week, by its two updates
  pub week_updated : (b : BacklogUpdate) (i : InventoryUpdate) (z : Profit) → BacklogUpdated P v s b → InventoryUpdated P v s i
      → z.0 ≡ s.profit.0 +ℤ pos b.revenue.0 -ℤ pos b.charge.0 -ℤ pos i.charge.0
      → week_end P v s ≡ continues (record { inventory = i.inventory.0; line = s.line; backlog = b.backlog.0; profit = z })
  unfolding week_done booked backlog_after inventory_after with_profit with_backlog with_inventory inventory_of backlog_of
  week_updated b i z carried sold e =
      week_continues (Ok tt) (rw (carried.due, sold.in_stock, sold.kept)) refl
      ∙ rw (e, carried.backlog, carried.revenue, carried.charge, sold.inventory, sold.charge)

module _ (P : Plant) (s : State) where
  pub storage_at_lem : storage_kept P s ≡ true → (i : ℕ) → i < P.products → (P.least_storage i ≤ inventory_of s i) × (inventory_of s i ≤ P.greatest_storage i)
  unfolding storage_kept
  storage_at_lem h i l =
      within_at _ _ _ (all_each P.products (λ j. within (P.least_storage j) (P.greatest_storage j) (inventory_of s j)) h i l)
