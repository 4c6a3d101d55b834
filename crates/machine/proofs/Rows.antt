-- A row of slots, run one slot at a time: what is left to run, and what the next slot asks. Assumes nothing.
use Prim.Native.Nat.{ℕ, ◌+◌, ◌-◌, ◌<◌, ◌^◌}
use mathlib.Core.Path.{◌≡◌, refl, sym, ap, subst, ◌∙◌}
use mathlib.Core.List.{List, ◌∷◌}
use native.Mathlib.Omega.{arith}
use native.Mathlib.Numerals.{add-one}
use lib.ListN.{length, get_or, drop, length-map, get_or-map}
use lib.Seq.{drop-cons, drop-length}
use Rattle.sections.specs.declared.Refusal.{Refusal}
use Rattle.sections.specs.Limits.{most_weeks}
use Rattle.plant_file.specs.Plant.{Plant}
use Rattle.plant_file.specs.Accepted.{plant_in}
use Rattle.plant_file.specs.declared.file.PlantFile.{PlantFile}
use Rattle.slot_file.specs.Slots.{Slot as FileSlot}
use Rattle.slot_file.specs.declared.Slot.{Slot}
use Rattle.machine.specs.declared.State.{State}
use Rattle.machine.specs.State.{Step, continues, stops, and_then}
use Rattle.machine.specs.Machine.{slot_step}
use Rattle.machine.specs.Run.{run_slots}
use Rattle.machine.specs.Bounds.{Sane, Roomy}
use Rattle.slot_file.specs.Row.{slot_of, slots_in}
use Rattle.machine.specs.Row.{Runnable}
use Rattle.machine.proofs.Sanity.{sane_roomy, slot_kept}

-- what lies past the end of a row
abbrev pub none : Slot
none = record { product = 0; minutes = record { 0 = 0 } }

-- ---- a run, slot by slot
-- the first i slots have run without a stop, and left the state t
pub record Reached (plant : PlantFile) (row : List Slot) (s : State) (i : ℕ) (t : State) : Type 0 where
  pub sane : Sane plant.shape (most_weeks - 1) i t
  pub same : run_slots (plant_in plant) (plant_in plant).line (drop i (slots_in row)) t
      ≡ run_slots (plant_in plant) (plant_in plant).line (slots_in row) s

module _ (plant : PlantFile) (row : List Slot) (s : State) (asks : Runnable plant.shape (slots_in row) s) where
  abbrev P : Plant
  P = plant_in plant

  pub row_starts : Reached plant row s 0 s
  row_starts = record { sane = asks.sane; same = refl }

  module _ (i : ℕ) (t : State) (at : Reached plant row s i t) where
    pub row_ends : i ≡ length row → continues t ≡ run_slots P P.line (slots_in row) s
    row_ends e =
        let all : drop i (slots_in row) ≡ drop (length (slots_in row)) (slots_in row) = rw (e, length-map row slot_of) in
        sym (ap (λ (xs : List FileSlot). run_slots P P.line xs t) (all ∙ drop-length (slots_in row))) ∙ at.same

    module _ (l : i < length row) where
      inside : i < length (slots_in row)
      inside = omega (arith, length-map row slot_of)

      found : get_or (slots_in row) i (slot_of none) ≡ slot_of (get_or row i none)
      found = get_or-map slot_of row i none

      pub row_asks : ((get_or row i none).product < plant.shape.products) × ((get_or row i none).minutes.0 < 2 ^ 16) × Roomy plant.shape t
      row_asks = (
        subst (λ (x : FileSlot). x.product < plant.shape.products) found (asks.product i inside),
        subst (λ (x : FileSlot). x.minutes < 2 ^ 16) found (asks.minutes i inside),
        sane_roomy at.sane (omega arith) (omega (arith, asks.few, length-map row slot_of)),
      )

      -- the run from slot i on
      next : (r : Step) → r ≡ slot_step P P.line (slot_of (get_or row i none)) t
          → and_then r (run_slots P P.line (drop (i + 1) (slots_in row))) ≡ run_slots P P.line (slots_in row) s
      next r e =
          let x = slot_of (get_or row i none) in
          let rest : drop i (slots_in row) ≡ x ∷ drop (i + 1) (slots_in row) = rw (drop-cons (slots_in row) i (slot_of none) inside, found, add-one) in
          ap (λ (q : Step). and_then q (run_slots P P.line (drop (i + 1) (slots_in row)))) e
          ∙ (sym (ap (λ (xs : List FileSlot). run_slots P P.line xs t) rest) ∙ at.same)

      pub row_goes : (u : State) → continues u ≡ slot_step P P.line (slot_of (get_or row i none)) t → Reached plant row s (i + 1) u
      row_goes u e =
          record {
            sane = slot_kept plant.bytes.now plant.shape plant.accepted (slot_of (get_or row i none)) (continues u) row_asks.0 at.sane e refl;
            same = next (continues u) e;
          }

      pub row_stops : (u : State) (n : Refusal) → stops u n ≡ slot_step P P.line (slot_of (get_or row i none)) t
          → stops u n ≡ run_slots P P.line (slots_in row) s
      row_stops u n e = next (stops u n) e
