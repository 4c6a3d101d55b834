-- Two plants with the same numbers run the same slots alike: to equal steps, tables and report lines. Assumes nothing.
use Prim.Native.Nat.{ℕ, zero, suc, ◌+◌, ◌*◌, ◌≤◌, ◌<◌}
use mathlib.Core.Path.{◌≡◌, refl, sym, ap, ◌∙◌}
use mathlib.Core.List.{List, [], ◌∷◌}
use native.Mathlib.Omega.{arith}
use native.Mathlib.Numerals.{add-one}
use lib.ListN.{replicate}
use Rattle.mathematics.specs.Below.{within}
use Rattle.mathematics.specs.Order.{ProductsBelow, first_in}
use Rattle.mathematics.proofs.Below.{sum_ext}
use Rattle.mathematics.proofs.Tables.{all_ext}
use Rattle.mathematics.proofs.Join.{join_ext}
use Rattle.sections.specs.declared.Shape.{Shape}
use Rattle.std.specs.Prelude.{Err, None, Ok, Some}
use Rattle.plant_file.specs.Same.{SamePlant}
use Rattle.plant_file.specs.Plant.{Plant, plant_of}
use Rattle.plant_file.specs.Form.{plant_form}
use Rattle.plant_file.proofs.PlantInRange.{plant_ranges}
use Rattle.plan_file.specs.Plan.{Same2, SamePlan}
use Rattle.slot_file.specs.Slots.{Slot, order_of_slots, Slots}
use Rattle.slot_file.proofs.Orders.{order_below}
use Rattle.costs.specs.Mounted.{Mounted, is_mounted, mounted_below, opening_mounted}
use Rattle.costs.specs.Changeover.{changeover_between, changeover_to}
use Rattle.machine.specs.declared.State.{State}
use Rattle.machine.specs.State.{Step}
use Rattle.machine.specs.State.{Outcome, inventory_of, backlog_of, with_line, with_week, with_mounted, first_met, stepped, and_then}
use Rattle.machine.specs.Machine.{week_begin, clock_after, slot_done, slot_stops, slot_step, WeekInput, week_input, sales_due, backlog_after, sales_in_stock}
use Rattle.machine.specs.Machine.{inventory_after, storage_kept, booked, week_done, week_stops, week_end}
use Rattle.machine.specs.Run.{opening, run_slots, run_week, run_weeks, run, slots_done, ran_week, after}
use Rattle.machine.proofs.Flat.{row_ext}
use Rattle.machine.proofs.Runs.{then_then}
use Rattle.model.specs.RunTables.{minutes_of, line_tables, mounted_at, run_tables}
use Rattle.model.specs.Match.{Formed}
use Rattle.model.proofs.Grids.{grid_ext}
use Rattle.model.proofs.RunStates.{mounted_below_lem}
use Rattle.report.specs.Report.{slot_lines, week_lines}
use Rattle.demands.proofs.SameRuns.{rows_ext, backlog_same, due_same}

-- ---- two steps that stop alike, or else go on at the state s
record Alike (r q : Step) (s : State) : Type 0 where
  next : (g h : State → Step) → g s ≡ h s → and_then r g ≡ and_then q h

step_alike : (o : Outcome) (s t : State) {r : Step} → stepped o s t ≡ r → Alike (stepped o s t) r t
step_alike (Ok tt) s t e = record { next = λ g h d. d ∙ ap (λ (r : Step). and_then r h) e }
step_alike (Err n) s t e = record { next = λ g h d. ap (λ (r : Step). and_then r h) e }

then_alike : {r q : Step} {s t : State} (g h : State → Step) → Alike r q s → Alike (g s) (h s) t → Alike (and_then r g) (and_then q h) t
then_alike {r} {q} g h a b =
    record {
      next = λ i j e. then_then r g i ∙ (a.next (λ s. and_then (g s) i) (λ s. and_then (h s) j) (b.next i j e) ∙ sym (then_then q h j));
    }

-- ---- a changeover, in two tables that are the same for N products
pub to_same : {N : ℕ} {g h : ℕ → ℕ → ℕ} → ((i j : ℕ) → i < N → j < N → g i j ≡ h i j) → (m : Mounted) (p : ℕ) → mounted_below N m → p < N
    → changeover_to g m p ≡ changeover_to h m p
unfolding changeover_between
to_same e None p m k = refl
to_same e (Some q) p m k = e q p m k

module _ (f : Shape) (a b : List ℕ) (same : SamePlant (plant_of f a) (plant_of f b)) (good : plant_form a ≡ Ok f)
    (S : Slots) (formed : Formed (plant_of f a) S) where
  abbrev P : Plant
  P = plant_of f a

  abbrev Q : Plant
  Q = plant_of f b

  -- of known products: what is mounted, and slots
  abbrev Mounts : State → Type 0
  Mounts s = mounted_below f.products s.line.mounted

  abbrev Known : List Slot → Type 0
  Known xs = ProductsBelow f.products (order_of_slots xs)

  -- ---- slots
  module _ (x : Slot) (s : State) (k : x.product < f.products) (m : Mounts s) where
    clock_same : clock_after P.line x s ≡ clock_after Q.line x s
    unfolding clock_after
    clock_same = rw (to_same same.changeover_minutes s.line.mounted x.product m k)

    slot_same : slot_done P.line x s ≡ slot_done Q.line x s
    unfolding slot_done
    slot_same = rw (clock_same, same.rate x.product k, to_same same.changeover_cents s.line.mounted x.product m k)

    step_same : slot_step P P.line x s ≡ slot_step Q Q.line x s
    unfolding slot_step slot_stops
    step_same = rw (clock_same, slot_same, same.shortest_run, same.week_minutes)

  slots_same : (xs : List Slot) (s : State) → Known xs → Mounts s → slots_done P.line xs s ≡ slots_done Q.line xs s
  unfolding slot_done with_mounted with_line
  slots_same [] s k m = refl
  slots_same (x ∷ xs) s k m =
      let known = k 0 (omega arith) in
      slots_same xs (slot_done P.line x s) (λ u l. k (suc u) (omega arith)) known
      ∙ ap (slots_done Q.line xs) (slot_same x s known m)

  slots_alike : (xs : List Slot) (s : State) → Known xs → Mounts s
      → Alike (run_slots P P.line xs s) (run_slots Q Q.line xs s) (slots_done P.line xs s)
  unfolding slot_step slot_done with_mounted with_line
  slots_alike [] s k m = record { next = λ g h e. e }
  slots_alike (x ∷ xs) s k m =
      let known = k 0 (omega arith) in
      then_alike (run_slots P P.line xs) (run_slots Q Q.line xs)
      (step_alike (first_met (slot_stops P P.line x s)) s (slot_done P.line x s) (step_same x s known m))
      (slots_alike xs (slot_done P.line x s) (λ u l. k (suc u) (omega arith)) known)

  lines_same : (w : ℕ) (m : Mounted) (t : ℕ) (xs : List Slot) → mounted_below f.products m → Known xs → slot_lines P w m t xs ≡ slot_lines Q w m t xs
  lines_same w m t [] l k = refl
  lines_same w m t (x ∷ xs) l k =
      let known = k 0 (omega arith) in
      rw (to_same same.changeover_minutes m x.product l known, lines_same w (Some x.product) _ xs known (λ u l. k (suc u) (omega arith)))

  -- ---- week w
  module _ (w : ℕ) (l : w < f.weeks) where
    abbrev p : WeekInput
    p = week_input P S w

    abbrev q : WeekInput
    q = week_input Q S w

    week_known : Known (S.line.week w)
    week_known = order_below f.products (S.line.week w) (formed w l)

    booked_same : (s : State) → booked P p s ≡ booked Q q s
    unfolding booked
    booked_same s =
        let table = grid_ext f.customers f.products in
        let sales = table _ _ (λ c i j k. ap (λ (x : ℕ). x * S.sales c i w) (same.price c i j k)) in
        let backlog = table _ _ (λ c i j k. ap (λ (x : ℕ). x * backlog_of f.products s c i) (same.backlog_cost c i j k)) in
        rw (sales, backlog, sum_ext f.products _ _ (λ i k. ap (λ (x : ℕ). x * inventory_of s i) (same.inventory_cost i k)))

    demand_same : Same2 f.customers f.products p.demand q.demand
    demand_same c i j k = same.demand c i w j k l

    done_same : (s : State) → week_done P p s ≡ week_done Q q s
    unfolding week_done inventory_after backlog_after
    done_same s =
        booked_same (backlog_after P p (inventory_after P p s))
        ∙ ap (booked Q q) (backlog_same P p q demand_same (λ c i j k. refl) (inventory_after P p s))

    kept_same : (s : State) → storage_kept P s ≡ storage_kept Q s
    unfolding storage_kept
    kept_same s = all_ext f.products _ _ (λ i k. λ u. within (same.least_storage i k u) (same.greatest_storage i k u) (inventory_of s i))

    end_same : (s : State) → week_end P p s ≡ week_end Q q s
    unfolding week_end inventory_after sales_in_stock sales_due
    end_same s =
        let due = due_same P p q demand_same (λ c i j k. refl) s in
        λ u. stepped (first_met (week_stops (due u) (sales_in_stock P p s) (kept_same (inventory_after P p s) u))) s (done_same s u)

    week_alike : (s : State) → Mounts s → Alike (run_week P p s) (run_week Q q s) (week_done P p (ran_week P p s))
    unfolding run_week ran_week week_begin with_week with_line week_end
    week_alike s m =
        let t = ran_week P p s in
        let met = first_met (week_stops (sales_due P p t) (sales_in_stock P p t) (storage_kept P (inventory_after P p t))) in
        then_alike (week_end P p) (week_end Q q) (slots_alike (S.line.week w) (week_begin s) week_known m)
        (step_alike met t (week_done P p t) (end_same t))

  -- ---- all weeks
  opening_same : opening P ≡ opening Q
  unfolding opening opening_mounted
  opening_same =
      let inventory = row_ext 0 f.products _ _ (replicate 16 0) (λ i _. same.opening_inventory i) in
      let backlog = rows_ext f.customers f.products _ _ (replicate 128 0) (λ c i _. same.opening_backlog c i) in
      rw (same.mounted, inventory, backlog)

  before_mounts : (w : ℕ) → w ≤ f.weeks → Mounts (after P S w)
  before_mounts w l = mounted_below_lem P S (plant_ranges a f good).line w (λ v h. formed v (omega arith))

  after_same : (w : ℕ) → w ≤ f.weeks → after P S w ≡ after Q S w
  unfolding ran_week week_begin with_week with_line
  after_same zero l = opening_same
  after_same (suc w) l =
      let ran = slots_same (S.line.week w) (week_begin (after P S w)) (week_known w l) (before_mounts w (omega arith)) in
      done_same w l (ran_week P (week_input P S w) (after P S w))
      ∙ ap (week_done Q (week_input Q S w)) (ran ∙ ap (ran_week Q (week_input Q S w)) (after_same w (omega arith)))

  weeks_same : (left w : ℕ) → w + left ≤ f.weeks
      → run_weeks P (week_input P S) left w (after P S w) ≡ run_weeks Q (week_input Q S) left w (after P S w)
  weeks_same zero w l = refl
  weeks_same (suc left) w l =
      (week_alike w (omega arith) (after P S w) (before_mounts w (omega arith))).next
      (run_weeks P (week_input P S) left (w + 1)) (run_weeks Q (week_input Q S) left (w + 1))
      (rw add-one (weeks_same left (suc w) (omega arith)))

  pub same_run : run P S ≡ run Q S
  unfolding run
  same_run = weeks_same f.weeks 0 (omega arith) ∙ ap (run_weeks Q (week_input Q S) f.weeks 0) opening_same

  pub same_tables : SamePlan f (run_tables P S) (run_tables Q S)
  unfolding run_tables line_tables
  same_tables =
      record {
        line =
            record {
              assigned = λ w i l k. refl;
              first = λ w i l k. refl;
              last = λ w i l k. refl;
              changeover = λ w i j l k m. refl;
              week_changeover = λ w i j l k m.
                  ap (λ (s : State). is_mounted s.line.mounted i * first_in (order_of_slots (S.line.week w)) j) (after_same w (omega arith));
              position = λ w i l k. refl;
              minutes = λ w i l k. refl;
            };
        production = λ w i l k. ap (λ (r : ℕ). r * minutes_of (S.line.week w) i) (same.rate i k);
        sales = λ c i w j k l. refl;
        inventory = λ w i l k. ap (λ (s : State). inventory_of s i) (after_same (suc w) l);
        backlog = λ c i w j k l. ap (λ (s : State). backlog_of f.products s c i) (after_same (suc w) l);
        profit = ap (λ (s : State). s.profit.0) (after_same f.weeks (omega arith));
      }

  pub same_lines : week_lines P S ≡ week_lines Q S
  unfolding week_lines
  same_lines = join_ext f.weeks _ _ (λ w l.
      lines_same w (mounted_at P S w) 0 (S.line.week w) (before_mounts w (omega arith)) (week_known w l)
      ∙ ap (λ (s : State). slot_lines Q w s.line.mounted 0 (S.line.week w)) (after_same w (omega arith)))
