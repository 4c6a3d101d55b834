-- Request 2026-03, "roll on": the slots of the later weeks, on the plant that the first k leave, run as in the whole run. Assumes nothing.
use Prim.Native.Nat.{ℕ, zero, suc, ◌+◌, ◌*◌, ◌-◌, ◌≤◌, ◌<◌}
use mathlib.Core.Path.{◌≡◌, refl, sym, ap, ◌∙◌}
use mathlib.Core.List.{List, [], ◌∷◌}
use native.Mathlib.Omega.{arith}
use native.Mathlib.Nat.{add-zero, add-suc}
use lib.IntN.{ℤ, ◌+ℤ◌, +ℤ_idr}
use Rattle.mathematics.specs.Below.{sum_below}
use Rattle.mathematics.specs.Order.{ProductsBelow, assigned_in}
use Rattle.mathematics.proofs.Below.{sum_ext}
use Rattle.sections.specs.declared.Shape.{Shape}
use Rattle.plant_file.specs.Plant.{Plant, plant_of}
use Rattle.plant_file.specs.Same.{SamePlant}
use Rattle.plant_file.specs.Ranges.{PlantRanges}
use Rattle.plan_file.specs.Plan.{Plan, Same2}
use Rattle.slot_file.specs.Slots.{Slot, order_of_slots, WeekFormed, Slots, SameSlots}
use Rattle.slot_file.proofs.Orders.{order_below}
use Rattle.std.specs.Prelude.{Some}
use Rattle.costs.specs.Mounted.{Mounted, mounted_below, opening_mounted, mounted_number}
use Rattle.costs.proofs.Changeovers.{opening_number}
use Rattle.costs.specs.Money.{revenue_of, backlog_charge_of, inventory_charge_of, changeover_charge_of}
use Rattle.machine.specs.declared.State.{State}
use Rattle.machine.specs.State.{inventory_of, backlog_of, continues, with_inventory, with_backlog, with_profit}
use Rattle.machine.specs.Machine.{week_begin, week_input, inventory_after, backlog_after, booked, week_done}
use Rattle.machine.specs.Run.{opening, run, ran_week, after}
use Rattle.model.specs.RunTables.{last_of, minutes_of, mounted_at}
use Rattle.model.specs.Match.{Gives}
use Rattle.model.specs.Rolled.{rolled_shape, rolled_plant, later_slots}
use Rattle.model.proofs.Grids.{grid_ext}
use Rattle.model.proofs.Money.{both_more}
use Rattle.model.proofs.Changeovers.{total_minutes, total_changeover}
use Rattle.model.proofs.States.{mark, opening_inventory, opening_backlog, begin_ran}
use Rattle.model.proofs.RunStates.{ran, mounted_below_lem, after_mounted, ran_clock, next_profit}
use Rattle.model.proofs.RunStates.{ran_backlog, ran_inventory, after_backlog, after_inventory}
use Rattle.model.proofs.Stops.{SlotsContinue, EndContinues, WeekContinues, run_continues}
use Rattle.model.proofs.RunRules.{run_once}
use Rattle.model.proofs.GivenPlans.{continued, given_inventory, given_backlog, given_mounted}
use Rattle.demands.specs.RollOn.{SameWeekEnd, RunsOn}
use Rattle.demands.proofs.SamePlants.{to_same}

-- the changeovers of some products, in two tables that are the same for N products
total_same : {N : ℕ} {a b : ℕ → ℕ → ℕ} → Same2 N N a b → (m : Mounted) (ps : List ℕ) → mounted_below N m → ProductsBelow N ps
    → total_changeover a m ps ≡ total_changeover b m ps
total_same e m [] h k = refl
total_same e m (p ∷ ps) h k =
    let known = k 0 (omega arith) in
    λ u. to_same e m p h known u + total_same e (Some p) ps known (λ v l. k (suc v) (omega arith)) u

-- two states from which a week goes alike, of plants for N products and C customers: the same but for the clock, which the week sets to 0
record SameWeekStart (N C : ℕ) (a b : State) : Type 0 where
  inventory : (i : ℕ) → i < N → inventory_of a i ≡ inventory_of b i
  backlog : (c i : ℕ) → c < C → i < N → backlog_of N a c i ≡ backlog_of N b c i
  mounted : a.line.mounted ≡ b.line.mounted

module _ (f : Shape) (plant : List ℕ) (R : PlantRanges (plant_of f plant)) (S : Slots) (s : State) (x : Plan)
    (g : Gives (plant_of f plant) S s x) (k : ℕ) where
  -- the whole run's plant, its counts, and the weeks that are left
  abbrev P : Plant
  P = plant_of f plant

  abbrev N : ℕ
  N = f.products

  abbrev C : ℕ
  C = f.customers

  abbrev left : ℕ
  left = f.weeks - k

  module _ (few : k < f.weeks) (new : List ℕ) (R' : PlantRanges (plant_of (rolled_shape f k) new)) where
    -- the new plant
    abbrev Q : Plant
    Q = plant_of (rolled_shape f k) new

    -- ---- it begins, at any rates, as the whole run is after k weeks
    module _ (rate : ℕ → ℕ) (same : SamePlant (rolled_plant P x k rate) Q) where
      opens_inventory : (i : ℕ) → i < N → inventory_of (opening Q) i ≡ inventory_of (after P S k) i
      unfolding rolled_plant
      opens_inventory i l = opening_inventory Q R' i l ∙ (sym (same.opening_inventory i l) ∙ given_inventory R g k i few l)

      opens_backlog : (c i : ℕ) → c < C → i < N → backlog_of N (opening Q) c i ≡ backlog_of N (after P S k) c i
      unfolding rolled_plant
      opens_backlog c i j l = opening_backlog Q R' c i j l ∙ (sym (same.opening_backlog c i j l) ∙ given_backlog R g k c i few j l)

      pub opens_mounted : opening_mounted Q.line ≡ mounted_at P S k
      unfolding rolled_plant
      opens_mounted =
          opening_number N R.products_most Q.line (mounted_at P S k) (mounted_below_lem P S R.line k (λ w l. g.formed w (omega arith)))
          (sym same.mounted ∙ ap mounted_number (given_mounted R g k few))

    module _ (same : SamePlant (rolled_plant P x k P.line.rate) Q) (T : Slots) (slots : SameSlots (rolled_shape f k) T (later_slots k S)) where
      -- ---- its week n is week w of the whole run
      module _ (n : ℕ) (l : n < left) where
        abbrev w : ℕ
        w = k + n

        week_same : T.line.week n ≡ S.line.week w
        unfolding later_slots
        week_same = slots.week n l

        sales_same : Same2 C N (λ c i. T.sales c i n) (λ c i. S.sales c i w)
        unfolding later_slots
        sales_same c i j m = slots.sales c i n j m l

        old_formed : WeekFormed N (S.line.week w)
        old_formed = g.formed w (omega arith)

        new_formed : WeekFormed N (T.line.week n)
        new_formed = rw week_same old_formed

        old_continues : WeekContinues P S w
        old_continues = (continued R g).0 w (omega arith)

        made_same : (i : ℕ) → i < N → Q.line.rate i * minutes_of (T.line.week n) i ≡ P.line.rate i * minutes_of (S.line.week w) i
        unfolding rolled_plant
        made_same i m = λ u. sym (same.rate i m) u * minutes_of (week_same u) i

        sold_same : (i : ℕ) → i < N → sum_below C (λ c. T.sales c i n) ≡ sum_below C (λ c. S.sales c i w)
        sold_same i m = sum_ext C _ _ (λ c j. sales_same c i j m)

        -- ---- where it starts alike, it ends alike
        module _ (start : SameWeekStart N C (after Q T n) (after P S w)) where
          changeovers_same : (a b : ℕ → ℕ → ℕ) → Same2 N N a b
              → total_changeover b (mounted_at Q T n) (order_of_slots (T.line.week n))
              ≡ total_changeover a (mounted_at P S w) (order_of_slots (S.line.week w))
          changeovers_same a b e =
              (λ u. total_changeover b (start.mounted u) (order_of_slots (week_same u)))
              ∙ sym (total_same e (mounted_at P S w) (order_of_slots (S.line.week w))
              (mounted_below_lem P S R.line w (λ v h. g.formed v (omega arith))) (order_below N (S.line.week w) old_formed))

          clock_same : (ran Q T n).line.clock.0 ≡ (ran P S w).line.clock.0
          unfolding rolled_plant
          clock_same =
              omega (
                arith,
                ran_clock Q T n,
                ran_clock P S w,
                ap total_minutes week_same,
                changeovers_same P.line.changeover_minutes Q.line.changeover_minutes same.changeover_minutes,
              )

          end_clock : (after Q T (suc n)).line.clock ≡ (after P S (suc w)).line.clock
          unfolding week_done booked backlog_after inventory_after with_inventory with_backlog with_profit
          end_clock = λ u. record { 0 = clock_same u }

          ends : SameWeekEnd N C (after Q T (suc n)) (after P S (suc w))
          unfolding rolled_plant
          ends =
              record {
                inventory = λ i m. omega (
                  arith,
                  after_inventory Q T R' n new_formed i m,
                  after_inventory P S R w old_formed i m,
                  start.inventory i m,
                  made_same i m,
                  sold_same i m,
                );
                backlog = λ c i j m. omega (
                  arith,
                  after_backlog Q T R' n c i j m,
                  after_backlog P S R w c i j m,
                  start.backlog c i j m,
                  same.demand c i n j m l,
                  sales_same c i j m,
                );
                clock = end_clock;
                mounted =
                    after_mounted Q T n
                    ∙ ((λ u. last_of (start.mounted u) (order_of_slots (week_same u))) ∙ sym (after_mounted P S w));
              }

          -- ---- it does not stop
          slots_continue : SlotsContinue Q (T.line.week n) (week_begin (after Q T n))
          unfolding rolled_plant ran_week
          slots_continue =
              record {
                once = λ i m. omega (
                  arith,
                  run_once P R S w old_formed old_continues i m,
                  ap (λ (xs : List Slot). assigned_in (order_of_slots xs) i) week_same,
                  ap mark (begin_ran Q R' (after Q T n) i m),
                );
                long = λ i m. rw (week_same, ← same.shortest_run) (old_continues.slots.long i m);
                early = omega (arith, clock_same, old_continues.slots.early, same.week_minutes);
              }

          end_continues : EndContinues Q (week_input Q T n) (ran Q T n)
          unfolding rolled_plant
          end_continues =
              let old = old_continues.ends in
              record {
                due = λ c i j m. omega (
                  arith,
                  old.due c i j m,
                  ran_backlog Q T R' n c i,
                  ran_backlog P S R w c i,
                  start.backlog c i j m,
                  same.demand c i n j m l,
                  sales_same c i j m,
                );
                stocked = λ i m. omega (
                  arith,
                  old.stocked i m,
                  ran_inventory Q T R' n new_formed i,
                  ran_inventory P S R w old_formed i,
                  start.inventory i m,
                  made_same i m,
                  sold_same i m,
                );
                least = λ i m. omega (arith, old.least i m, same.least_storage i m, ends.inventory i m);
                most = λ i m. omega (arith, old.most i m, same.greatest_storage i m, ends.inventory i m);
              }

          -- ---- its money, beside what was there before
          earns : (z : ℤ) → z +ℤ (after Q T n).profit.0 ≡ (after P S w).profit.0
              → z +ℤ (after Q T (suc n)).profit.0 ≡ (after P S (suc w)).profit.0
          unfolding rolled_plant
          earns z e =
              let over = ap changeover_charge_of (changeovers_same P.line.changeover_cents Q.line.changeover_cents same.changeover_cents) in
              let sales : revenue_of Q (λ c i. T.sales c i n) ≡ revenue_of P (λ c i. S.sales c i w) =
              grid_ext C N _ _ (λ c i j m u. sym (same.price c i j m) u * sales_same c i j m u) in
              let late : backlog_charge_of Q (backlog_of N (after Q T (suc n))) ≡ backlog_charge_of P (backlog_of N (after P S (suc w))) =
              grid_ext C N _ _ (λ c i j m u. sym (same.backlog_cost c i j m) u * ends.backlog c i j m u) in
              let held : inventory_charge_of Q (inventory_of (after Q T (suc n))) ≡ inventory_charge_of P (inventory_of (after P S (suc w))) =
              sum_ext N _ _ (λ i m u. sym (same.inventory_cost i m) u * ends.inventory i m u) in
              rw (next_profit Q T n, next_profit P S w) (both_more z (after Q T n).profit.0 e over sales late held)

      -- ---- week by week
      starts : (n : ℕ) → n ≤ left → SameWeekStart N C (after Q T n) (after P S (k + n))
      unfolding opening
      starts zero l =
          let rate = P.line.rate in
          rw (add-zero k)
          (record { inventory = opens_inventory rate same; backlog = opens_backlog rate same; mounted = opens_mounted rate same })
      starts (suc n) l =
          let e = ends n l (starts n (omega arith)) in
          rw (add-suc k n) (record { inventory = e.inventory; backlog = e.backlog; mounted = e.mounted })

      never_stops : run Q T ≡ continues (after Q T left)
      never_stops =
          run_continues Q R' T new_formed (λ n l.
          let b = starts n (omega arith) in record { slots = slots_continue n l b; ends = end_continues n l b })

      ends_same : (n : ℕ) → 1 ≤ n → n ≤ left → SameWeekEnd N C (after Q T n) (after P S (k + n))
      ends_same zero h l = absurd (omega arith)
      ends_same (suc n) h l = rw (add-suc k n) (ends n l (starts n (omega arith)))

      profit_rest : (n : ℕ) → n ≤ left → (after P S k).profit.0 +ℤ (after Q T n).profit.0 ≡ (after P S (k + n)).profit.0
      unfolding opening
      profit_rest zero l = rw (add-zero k) (+ℤ_idr (after P S k).profit.0)
      profit_rest (suc n) l = rw (add-suc k n) (earns n l (starts n (omega arith)) (after P S k).profit.0 (profit_rest n (omega arith)))

  -- k = 0 too, for which nothing has run
  pub runs_on : k < f.weeks → (new : List ℕ) → PlantRanges (plant_of (rolled_shape f k) new)
      → SamePlant (rolled_plant P x k P.line.rate) (plant_of (rolled_shape f k) new)
      → (T : Slots) → SameSlots (rolled_shape f k) T (later_slots k S)
      → RunsOn P S k left (plant_of (rolled_shape f k) new) T
  runs_on few new R' same T slots =
      record {
        runs = never_stops few new R' same T slots;
        same = ends_same few new R' same T slots;
        profit = profit_rest few new R' same T slots;
      }
