-- A run continues exactly where no step has a cause to stop, and then passes through the states of `after`. Assumes nothing.
use Prim.Native.Nat.{ℕ, zero, suc, ◌+◌, ◌*◌, ◌<◌, ◌≤◌}
use Prim.{tt}
use mathlib.Core.Path.{◌≡◌, refl, sym, ap, ◌∙◌}
use mathlib.Core.Bool.{Bool, true, false, not}
use mathlib.Core.List.{List, [], ◌∷◌}
use native.Mathlib.Omega.{arith}
use native.Mathlib.Decide.{ℕ_discrete}
use native.Mathlib.Nat.{zero-add}
use native.Mathlib.Numerals.{add-one}
use lib.Dec.{leb}
use borrow.Author.Tests.{leb-true, le-leb}
use Rattle.mathematics.specs.Below.{is}
use Rattle.mathematics.specs.Order.{ProductsBelow, assigned_in}
use Rattle.mathematics.proofs.Below.{all_each, each_all, at_within, is_same, is_other}
use Rattle.plant_file.specs.Plant.{Plant}
use Rattle.plant_file.specs.Ranges.{PlantRanges}
use Rattle.slot_file.specs.Slots.{Slot, order_of_slots, WeekFormed, Slots}
use Rattle.slot_file.proofs.Orders.{order_below}
use Rattle.machine.specs.declared.State.{State}
use Rattle.machine.specs.State.{Step, inventory_of, backlog_of, has_run, continues, first_met, and_then}
use Rattle.machine.specs.Machine.{week_begin, slot_done, slot_step, WeekInput, week_input, sold_of, sales_due, sales_in_stock, storage_kept, week_done, week_end}
use Rattle.machine.specs.Run.{run_slots, run_week, run_weeks, run, slots_done, ran_week, after}
use Rattle.machine.proofs.Steps.{met_none, SlotContinues, slot_continues, slot_continued, tries, week_continues, week_continued, storage_at_lem}
use Rattle.machine.proofs.Runs.{continued_step, then_continued}
use Rattle.model.specs.RunTables.{minutes_of}
use Rattle.model.proofs.States.{Lengths, mark, begin_lengths, slot_lengths_lem, slot_ran, slot_clock, begin_clock, kept_inventory}
use Rattle.mathematics.proofs.Tables.{all_grid, grid_all}
use Rattle.model.proofs.Changeovers.{no_minutes}
use Rattle.model.proofs.RunStates.{slots_clock, ran, after_lengths}

then_continue : (a : Step) (next : State → Step) (r s : State) → a ≡ continues r → next r ≡ continues s → and_then a next ≡ continues s
then_continue a next r s e h = rw e h

-- ---- a week's slots: no cause for 25, 35 or 36
pub record SlotsContinue (P : Plant) (xs : List Slot) (s : State) : Type 0 where
  pub once : (i : ℕ) → i < P.products → mark (has_run s i) + assigned_in (order_of_slots xs) i ≤ 1
  pub long : (i : ℕ) → i < P.products → P.shortest_run * assigned_in (order_of_slots xs) i ≤ minutes_of xs i
  pub early : (slots_done P.line xs s).line.clock.0 ≤ P.week_minutes

mark_most : (t : Bool) → mark t ≤ 1
mark_most true = omega arith
mark_most false = omega arith

mark_false : (t : Bool) → mark t ≡ 0 → t ≡ false
mark_false true e = absurd (omega arith)
mark_false false e = refl

module _ (P : Plant) (R : PlantRanges P) where
  slots_continued : (xs : List Slot) (s r : State) → Lengths s → ProductsBelow P.products (order_of_slots xs) → s.line.clock.0 ≤ P.week_minutes
      → run_slots P P.line xs s ≡ continues r → SlotsContinue P xs s × (slots_done P.line xs s ≡ r)
  slots_continued [] s r h k early e =
      (record { once = λ i l. omega (arith, mark_most (has_run s i)); long = λ i l. omega arith; early = early }, ap (λ (t : Step). t.state) e)
  slots_continued (x ∷ xs) s r h k early e =
      let step = slot_step P P.line x s in
      let a = then_continued step (run_slots P P.line xs) r e in
      let b = slot_continued P P.line x s step.state (continued_step step a.0) in
      let c = b.1 in
      let d = slots_continued xs (slot_done P.line x s) r (slot_lengths_lem P.line x h) (λ u l. k (suc u) (omega arith))
      (omega (arith, c.early, slot_clock P.line x s)) (ap (run_slots P P.line xs) (sym b.0) ∙ a.1) in (
        record {
          once = λ i l. omega (arith, d.0.once i l, slot_ran P R x s h (k 0 (omega arith)) c.fresh i);
          long = λ i l. elim (ℕ_discrete x.product i) [
            | yes q ↦ rw (is_same x.product i q) (omega (arith, c.long, d.0.long i l))
            | no q ↦ rw (is_other x.product i q) (omega (arith, d.0.long i l))
          ];
          early = d.0.early;
        },
        d.1,
      )

  slots_continue : (xs : List Slot) (s : State) → Lengths s → ProductsBelow P.products (order_of_slots xs) → SlotsContinue P xs s
      → run_slots P P.line xs s ≡ continues (slots_done P.line xs s)
  slots_continue [] s h k c = refl
  slots_continue (x ∷ xs) s h k c =
      let p = x.product in
      let l : p < P.products = k 0 (omega arith) in
      let o = c.once p l in
      let one = is_same p p refl in
      let none : assigned_in (order_of_slots xs) p ≡ 0 = omega arith in
      let m : P.shortest_run * (is p p + assigned_in (order_of_slots xs) p) ≤ is p p * x.minutes + minutes_of xs p = c.long p l in
      let fresh : has_run s p ≡ false = mark_false (has_run s p) (omega arith) in
      let done = slot_done P.line x s in
      let goes : SlotContinues P P.line x s = record {
        fresh = fresh;
        long = omega (arith, rw (one, none, no_minutes xs p none) at m);
        early = omega (arith, c.early, slots_clock P.line xs done, slot_clock P.line x s);
      } in
      then_continue (slot_step P P.line x s) (run_slots P P.line xs) done (slots_done P.line xs done) (slot_continues P P.line x s goes)
      (slots_continue xs done (slot_lengths_lem P.line x h) (λ u v. k (suc u) (omega arith)) (record {
        once = λ i j. omega (arith, c.once i j, slot_ran P R x s h l fresh i);
        long = λ i j. elim (ℕ_discrete p i) [
          | yes q ↦ (let z : assigned_in (order_of_slots xs) i ≡ 0 = sym (ap (assigned_in (order_of_slots xs)) q) ∙ none in rw z (omega arith))
          | no q ↦ (let z = is_other p i q in omega (arith, rw z at (c.long i j)))
        ];
        early = c.early;
      }))

-- ---- the end of a week: no cause for 38, 39 or 40
pub record EndContinues (P : Plant) (v : WeekInput) (s : State) : Type 0 where
  pub due : (c i : ℕ) → c < P.customers → i < P.products → v.sales c i ≤ backlog_of P.products s c i + v.demand c i
  pub stocked : (i : ℕ) → i < P.products → sold_of P v i ≤ inventory_of s i
  pub least : (i : ℕ) → i < P.products → P.least_storage i ≤ inventory_of (week_done P v s) i
  pub most : (i : ℕ) → i < P.products → inventory_of (week_done P v s) i ≤ P.greatest_storage i

module _ (P : Plant) (v : WeekInput) (s : State) where
  end_continued : (r : State) → week_end P v s ≡ continues r → EndContinues P v s × (week_done P v s ≡ r)
  unfolding sales_due sales_in_stock
  end_continued r e =
      let a = week_continued P v s r e in
      let storage : (i : ℕ) → i < P.products
      → (P.least_storage i ≤ inventory_of (week_done P v s) i) × (inventory_of (week_done P v s) i ≤ P.greatest_storage i) =
      λ i l. rw (kept_inventory P v s i) at (storage_at_lem P _ a.3 i l) in (
        record {
          due = λ c i k l. leb-true (v.sales c i) (backlog_of P.products s c i + v.demand c i)
              (all_grid P.customers P.products (λ c i. leb (v.sales c i) (backlog_of P.products s c i + v.demand c i)) a.1 c i k l);
          stocked = λ i l. leb-true (sold_of P v i) (inventory_of s i) (all_each P.products (λ i. leb (sold_of P v i) (inventory_of s i)) a.2 i l);
          least = λ i l. (storage i l).0;
          most = λ i l. (storage i l).1;
        },
        sym a.0,
      )

  end_continues : EndContinues P v s → week_end P v s ≡ continues (week_done P v s)
  unfolding sales_due sales_in_stock storage_kept
  end_continues h =
      week_continues P v s (first_met (tries P v s)) refl (met_none (tries P v s) (
        ap not (grid_all P.customers P.products _ (λ c i k l. le-leb (v.sales c i) _ (h.due c i k l))),
        (
          ap not (each_all P.products _ (λ i l. le-leb _ (inventory_of s i) (h.stocked i l))),
          (
            ap not (each_all P.products _ (λ i l. rw (kept_inventory P v s i)
                (at_within (P.least_storage i) (P.greatest_storage i) (inventory_of (week_done P v s) i) (h.least i l) (h.most i l)))),
            tt,
          ),
        ),
      ))

-- ---- a week
pub record WeekContinues (P : Plant) (S : Slots) (w : ℕ) : Type 0 where
  pub slots : SlotsContinue P (S.line.week w) (week_begin (after P S w))
  pub ends : EndContinues P (week_input P S w) (ran P S w)

module _ (P : Plant) (R : PlantRanges P) (S : Slots) where
  module _ (w : ℕ) (f : WeekFormed P.products (S.line.week w)) where
    -- its slots, and what they leave
    abbrev xs : List Slot
    xs = S.line.week w

    abbrev begun : State
    begun = week_begin (after P S w)

    abbrev v : WeekInput
    v = week_input P S w

    run_week_continued : (s : State) → run_week P v (after P S w) ≡ continues s → WeekContinues P S w × (after P S (suc w) ≡ s)
    unfolding run_week ran_week
    run_week_continued s e =
        let r = run_slots P P.line xs begun in
        let a = then_continued r (week_end P v) s e in
        let b = slots_continued P R xs begun r.state (begin_lengths (after_lengths P S w)) (order_below P.products xs f)
        (omega (arith, begin_clock (after P S w))) (continued_step r a.0) in
        let c = end_continued P v (ran P S w) s (ap (week_end P v) b.1 ∙ a.1) in
        (record { slots = b.0; ends = c.0 }, c.1)

    run_week_continues : WeekContinues P S w → run_week P v (after P S w) ≡ continues (after P S (suc w))
    unfolding run_week ran_week
    run_week_continues h =
        then_continue (run_slots P P.line xs begun) (week_end P v) (ran P S w) (after P S (suc w))
        (slots_continue P R xs begun (begin_lengths (after_lengths P S w)) (order_below P.products xs f) h.slots)
        (end_continues P v (ran P S w) h.ends)

  -- ---- so many weeks, from w on
  abbrev Weeks : (left w : ℕ) → (ℕ → Type 0) → Type 0
  Weeks left w A = (u : ℕ) → w ≤ u → u < w + left → A u

  abbrev formed : ℕ → Type 0
  formed w = WeekFormed P.products (S.line.week w)

  weeks_continued : (left w : ℕ) (s : State) → Weeks left w formed → run_weeks P (week_input P S) left w (after P S w) ≡ continues s
      → Weeks left w (WeekContinues P S) × (after P S (w + left) ≡ s)
  weeks_continued zero w s f e =
      let n : w + 0 ≡ w = omega arith in
      (λ u k l. absurd (omega arith), ap (after P S) n ∙ ap (λ (t : Step). t.state) e)
  weeks_continued (suc left) w s f e =
      let r = run_week P (week_input P S w) (after P S w) in
      let a = then_continued r (run_weeks P (week_input P S) left (w + 1)) s e in
      let b = run_week_continued w (f w (omega arith) (omega arith)) r.state (continued_step r a.0) in
      let c = weeks_continued left (suc w) s (λ u k l. f u (omega arith) (omega arith))
      (rw (← add-one w) (ap (run_weeks P (week_input P S) left (w + 1)) b.1 ∙ a.1)) in
      let n : w + suc left ≡ suc w + left = omega arith in (
        λ u k l. elim (ℕ_discrete u w) [ yes q ↦ rw q b.0 | no q ↦ c.0 u (omega arith) (omega arith) ],
        ap (after P S) n ∙ c.1,
      )

  weeks_continue : (left w : ℕ) → Weeks left w formed → Weeks left w (WeekContinues P S)
      → run_weeks P (week_input P S) left w (after P S w) ≡ continues (after P S (w + left))
  weeks_continue zero w f h = let n : w ≡ w + 0 = omega arith in ap (λ (u : ℕ). continues (after P S u)) n
  weeks_continue (suc left) w f h =
      let n : suc w + left ≡ w + suc left = omega arith in
      then_continue (run_week P (week_input P S w) (after P S w)) (run_weeks P (week_input P S) left (w + 1)) (after P S (suc w)) (after P S (w + suc left))
      (run_week_continues w (f w (omega arith) (omega arith)) (h w (omega arith) (omega arith)))
      (ap (λ (u : ℕ). run_weeks P (week_input P S) left u (after P S (suc w))) (add-one w)
      ∙ (weeks_continue left (suc w) (λ u k l. f u (omega arith) (omega arith)) (λ u k l. h u (omega arith) (omega arith))
      ∙ ap (λ (u : ℕ). continues (after P S u)) n))

  -- ---- the run
  module _ (f : (w : ℕ) → w < P.weeks → formed w) where
    pub run_continued : (s : State) → run P S ≡ continues s → ((w : ℕ) → w < P.weeks → WeekContinues P S w) × (after P S P.weeks ≡ s)
    unfolding run
    run_continued s e =
        let r = weeks_continued P.weeks 0 s (λ u k l. f u (omega arith)) e in
        (λ u l. r.0 u (omega arith) (omega arith), sym (ap (after P S) (zero-add P.weeks)) ∙ r.1)

    pub run_continues : ((w : ℕ) → w < P.weeks → WeekContinues P S w) → run P S ≡ continues (after P S P.weeks)
    unfolding run
    run_continues h =
        weeks_continue P.weeks 0 (λ u k l. f u (omega arith)) (λ u k l. h u (omega arith))
        ∙ ap (λ (u : ℕ). continues (after P S u)) (zero-add P.weeks)
