-- The states that a run passes through, by its tables: what is mounted, inventory, backlog, clock and profit. Stops aside.
-- Assumes nothing.
use Prim.Native.Nat.{ℕ, zero, suc, ◌+◌, ◌*◌, ◌-◌, ◌<◌, ◌≤◌}
use mathlib.Core.Path.{◌≡◌, refl, sym, ap, ◌∙◌}
use mathlib.Core.Bool.{cond}
use mathlib.Core.List.{List, [], ◌∷◌}
use native.Mathlib.Omega.{arith}
use lib.ListN.{get_or}
use lib.IntN.{ℤ, pos, ◌+ℤ◌, ◌-ℤ◌, +ℤ_idr}
use Rattle.mathematics.specs.Below.{sum_below}
use Rattle.mathematics.specs.Week.{WeekTables, shut}
use Rattle.mathematics.specs.Order.{ProductsBelow, last_in, order_tables, Agree}
use Rattle.mathematics.proofs.OrderTheorem.{agree_shut, agree_not_shut}
use Rattle.plant_file.specs.Plant.{LinePlant, Plant}
use Rattle.plant_file.specs.Ranges.{LineRanges, PlantRanges}
use Rattle.plan_file.specs.Plan.{LinePlan}
use Rattle.slot_file.specs.Slots.{Slot, order_of_slots, WeekFormed, Slots}
use Rattle.slot_file.proofs.Orders.{order_below}
use Rattle.costs.specs.Money.{revenue_of, backlog_charge_of, inventory_charge_of, changeover_charge_of}
use Rattle.costs.proofs.Changeovers.{opening_below}
use Rattle.std.specs.Prelude.{Some}
use Rattle.machine.specs.declared.State.{State}
use Rattle.machine.specs.State.{inventory_of, backlog_of, with_inventory, with_backlog, with_line, with_week, with_profit, with_mounted}
use Rattle.costs.specs.Changeover.{changeover_to}
use Rattle.machine.specs.Machine.{clock_after, week_begin, slot_done, week_input, inventory_after, backlog_after, booked, week_done}
use Rattle.costs.specs.Mounted.{Mounted, mounted_below}
use Rattle.machine.specs.Run.{opening, slots_done, ran_week, after}
use Rattle.rules.specs.Rules.{week_of, production_end, mounted_after, mounted_before, changeovers_in, backlog_before, inventory_before}
use Rattle.rules.specs.Rules.{revenue_in, changeover_charge_in, backlog_charge_in, inventory_charge_in}
use Rattle.rules.specs.Rules.{profit_of}
use Rattle.rules.proofs.Weeks.{mounted_next}
use Rattle.costs.specs.Mounted.{is_mounted}
use Rattle.model.specs.RunTables.{last_of, minutes_of, line_tables, mounted_at, run_tables}
use Rattle.model.proofs.States.{Lengths, opening_lengths, begin_lengths, slot_lengths_lem, week_lengths}
use Rattle.model.proofs.States.{opening_inventory, opening_backlog, slot_inventory, week_inventory, week_backlog, week_profit}
use Rattle.model.proofs.Money.{lose_both, week_more}
use Rattle.model.proofs.Changeovers.{last_below, is_move, total_minutes, total_changeover, sum_changeovers}

-- ---- a week's slots
module _ (l : LinePlant) where
  pub slots_lengths : (xs : List Slot) {s : State} → Lengths s → Lengths (slots_done l xs s)
  slots_lengths [] h = h
  slots_lengths (x ∷ xs) h = slots_lengths xs (slot_lengths_lem l x h)

  slots_mounted : (xs : List Slot) (s : State) → (slots_done l xs s).line.mounted ≡ last_of s.line.mounted (order_of_slots xs)
  unfolding slot_done with_inventory with_line with_week with_profit with_mounted
  slots_mounted [] s = refl
  slots_mounted (x ∷ xs) s = slots_mounted xs (slot_done l x s)

  slots_backlog : (xs : List Slot) (s : State) → (slots_done l xs s).backlog ≡ s.backlog
  unfolding slot_done with_inventory with_line with_week with_profit with_mounted
  slots_backlog [] s = refl
  slots_backlog (x ∷ xs) s = slots_backlog xs (slot_done l x s)

  pub slots_clock : (xs : List Slot) (s : State)
      → (slots_done l xs s).line.clock.0 ≡ s.line.clock.0 + total_minutes xs + total_changeover l.changeover_minutes s.line.mounted (order_of_slots xs)
  unfolding slot_done clock_after with_inventory with_line with_week with_profit with_mounted
  slots_clock [] s = omega arith
  slots_clock (x ∷ xs) s = omega (arith, slots_clock xs (slot_done l x s))

  slots_profit : (xs : List Slot) (s : State)
      → (slots_done l xs s).profit.0 ≡ s.profit.0 -ℤ pos (changeover_charge_of (total_changeover l.changeover_cents s.line.mounted (order_of_slots xs)))
  unfolding slot_done with_inventory with_line with_week with_profit with_mounted
  slots_profit [] s = sym (+ℤ_idr s.profit.0)
  slots_profit (x ∷ xs) s =
      slots_profit xs (slot_done l x s)
      ∙ lose_both s.profit.0 (changeover_charge_of (changeover_to l.changeover_cents s.line.mounted x.product))
      (changeover_charge_of (total_changeover l.changeover_cents (slot_done l x s).line.mounted (order_of_slots xs)))
      (changeover_charge_of (total_changeover l.changeover_cents s.line.mounted (order_of_slots (x ∷ xs)))) (omega arith)

slots_inventory : (P : Plant) → PlantRanges P → (xs : List Slot) (s : State) → Lengths s → ProductsBelow P.products (order_of_slots xs) → (i : ℕ)
    → inventory_of (slots_done P.line xs s) i ≡ inventory_of s i + P.line.rate i * minutes_of xs i
slots_inventory P R [] s h k i = omega arith
slots_inventory P R (x ∷ xs) s h k i =
    omega (
      arith,
      slots_inventory P R xs (slot_done P.line x s) (slot_lengths_lem P.line x h) (λ u l. k (suc u) (omega arith)) i,
      slot_inventory P R x s h (k 0 (omega arith)) i,
      is_move (λ j. P.line.rate j * x.minutes) x.product i,
    )

-- what is mounted after some products is the last of them
last_any : (m : Mounted) (p : ℕ) (ps : List ℕ) (i : ℕ) → is_mounted (last_of m (p ∷ ps)) i ≡ last_in (p ∷ ps) i
last_any m p [] i = refl
last_any m p (q ∷ ps) i = last_any (Some p) q ps i

-- after none it is what was mounted before: a week of these products, by its tables
mounted_step : (N : ℕ) (m : Mounted) (ps : List ℕ) (y : WeekTables) → ProductsBelow N ps → Agree N y (order_tables ps)
    → (before i : ℕ) → i < N → before ≡ is_mounted m i → cond (shut N y) before (y.last i) ≡ is_mounted (last_of m ps) i
mounted_step N m [] y b a before i l e = rw (agree_shut N y a) e
mounted_step N m (p ∷ ps) y b a before i l e =
    rw (agree_not_shut N y p ps (b 0 (omega arith)) a) (a.last i l ∙ sym (last_any m p ps i))

-- ---- week by week
module _ (P : Plant) (S : Slots) where
  -- the products of a week
  abbrev order : ℕ → List ℕ
  order w = order_of_slots (S.line.week w)

  -- the state when a week's slots have run
  abbrev pub ran : ℕ → State
  ran w = ran_week P (week_input P S w) (after P S w)

  -- row 24, of the first n weeks
  abbrev pub FormedTo : ℕ → Type 0
  FormedTo n = (w : ℕ) → w < n → WeekFormed P.products (S.line.week w)

  pub after_lengths : (w : ℕ) → Lengths (after P S w)
  unfolding ran_week
  after_lengths zero = opening_lengths P
  after_lengths (suc w) = week_lengths P (week_input P S w) (slots_lengths P.line (S.line.week w) (begin_lengths (after_lengths w)))

  ran_lengths : (w : ℕ) → Lengths (ran w)
  unfolding ran_week
  ran_lengths w = slots_lengths P.line (S.line.week w) (begin_lengths (after_lengths w))

  -- what is mounted
  pub after_mounted : (w : ℕ) → mounted_at P S (suc w) ≡ last_of (mounted_at P S w) (order w)
  unfolding week_done booked backlog_after inventory_after with_inventory with_backlog with_profit ran_week week_begin with_line with_week
  after_mounted w = slots_mounted P.line (S.line.week w) (week_begin (after P S w))

  pub mounted_below_lem : LineRanges P.products P.line → (n : ℕ) → FormedTo n → mounted_below P.products (mounted_at P S n)
  unfolding opening
  mounted_below_lem R zero f = opening_below P.products P.line R
  mounted_below_lem R (suc n) f =
      rw (after_mounted n) (last_below P.products (mounted_at P S n) (order n)
      (mounted_below_lem R n (λ w l. f w (omega arith))) (order_below P.products (S.line.week n) (f n (omega arith))))

  -- what a plan's tables say is mounted before a week is what the run has mounted then, where each week's tables are those of its slots' order
  pub mounted_before_lem : (x : LinePlan) (n : ℕ) → FormedTo n → ((w : ℕ) → w < n → Agree P.products (week_of x w) (order_tables (order w)))
      → (w : ℕ) → w ≤ n → (i : ℕ) → i < P.products → mounted_before P.products P.line x w i ≡ is_mounted (mounted_at P S w) i
  unfolding mounted_before mounted_after production_end opening week_of
  mounted_before_lem x n f a zero l i k = refl
  mounted_before_lem x n f a (suc w) l i k =
      mounted_next P.products x P.line w i
      ∙ (mounted_step P.products (mounted_at P S w) (order w) (week_of x w) (order_below P.products (S.line.week w) (f w l)) (a w l) _ i k
      (mounted_before_lem x n f a w (omega arith) i k)
      ∙ sym (ap (λ (m : Mounted). is_mounted m i) (after_mounted w)))

  -- changeovers by the tables
  pub changeover_total : LineRanges P.products P.line → (table : ℕ → ℕ → ℕ) (w : ℕ) → FormedTo w → WeekFormed P.products (S.line.week w)
      → changeovers_in P.products table (line_tables (mounted_at P S) S.line) w ≡ total_changeover table (mounted_at P S w) (order w)
  unfolding changeovers_in line_tables
  changeover_total R table w g f =
      sum_changeovers P.products table (mounted_at P S w) (order w) (mounted_below_lem R w g) (order_below P.products (S.line.week w) f)

  pub ran_clock : (w : ℕ) → (ran w).line.clock.0
      ≡ total_minutes (S.line.week w) + total_changeover P.line.changeover_minutes (mounted_at P S w) (order w)
  unfolding ran_week week_begin with_line with_week
  ran_clock w = omega (arith, slots_clock P.line (S.line.week w) (week_begin (after P S w)))

  -- the profit: a week's, and so far
  pub next_profit : (w : ℕ) → (after P S (suc w)).profit.0
      ≡ (after P S w).profit.0 -ℤ pos (changeover_charge_of (total_changeover P.line.changeover_cents (mounted_at P S w) (order w)))
      +ℤ pos (revenue_of P (λ c i. S.sales c i w)) -ℤ pos (backlog_charge_of P (backlog_of P.products (after P S (suc w))))
      -ℤ pos (inventory_charge_of P (inventory_of (after P S (suc w))))
  unfolding ran_week week_begin with_line with_week
  next_profit w =
      let late = backlog_charge_of P (backlog_of P.products (after P S (suc w))) in
      let held = inventory_charge_of P (inventory_of (after P S (suc w))) in
      week_profit P (week_input P S w) (ran w)
      ∙ ap (λ (z : ℤ). z +ℤ pos (revenue_of P (λ c i. S.sales c i w)) -ℤ pos late -ℤ pos held)
      (slots_profit P.line (S.line.week w) (week_begin (after P S w)))

  pub after_profit : LineRanges P.products P.line → (n : ℕ) → FormedTo n → (after P S n).profit.0 ≡ profit_of P (run_tables P S) n
  unfolding opening profit_of revenue_in changeover_charge_in backlog_charge_in inventory_charge_in run_tables
  after_profit R zero f = refl
  after_profit R (suc n) f =
      let x = run_tables P S in
      let sales = revenue_in P x in
      let over = changeover_charge_in P x in
      let late = backlog_charge_in P x in
      let held = inventory_charge_in P x in
      let g : FormedTo n = λ w l. f w (omega arith) in
      let total = changeover_total R P.line.changeover_cents n g (f n (omega arith)) in
      next_profit n
      ∙ (λ u. after_profit R n g u -ℤ pos (changeover_charge_of (sym total u)) +ℤ pos (sales n) -ℤ pos (late n) -ℤ pos (held n))
      ∙ week_more (sum_below n sales) (sum_below n over) (sum_below n late) (sum_below n held) (sales n) (over n) (late n) (held n)

  -- ---- backlog and inventory
  module _ (R : PlantRanges P) where
    -- before a week
    pub backlog_before_lem : (w c i : ℕ) → c < P.customers → i < P.products → backlog_before P (run_tables P S) w c i ≡ backlog_of P.products (after P S w) c i
    unfolding backlog_before run_tables
    backlog_before_lem zero c i k l = sym (opening_backlog P R c i k l)
    backlog_before_lem (suc w) c i k l = refl

    pub inventory_before_lem : (w i : ℕ) → i < P.products → inventory_before P (run_tables P S) w i ≡ inventory_of (after P S w) i
    unfolding inventory_before run_tables
    inventory_before_lem zero i l = sym (opening_inventory P R i l)
    inventory_before_lem (suc w) i l = refl

    -- when the week's slots have run
    pub ran_backlog : (w c i : ℕ) → backlog_of P.products (ran w) c i ≡ backlog_of P.products (after P S w) c i
    unfolding ran_week week_begin with_line with_week backlog_of
    ran_backlog w c i = ap (λ (l : List ℕ). get_or l (c * P.products + i) 0) (slots_backlog P.line (S.line.week w) (week_begin (after P S w)))

    pub ran_inventory : (w : ℕ) → WeekFormed P.products (S.line.week w) → (i : ℕ)
        → inventory_of (ran w) i ≡ inventory_of (after P S w) i + P.line.rate i * minutes_of (S.line.week w) i
    unfolding ran_week week_begin with_line with_week inventory_of
    ran_inventory w f i =
        slots_inventory P R (S.line.week w) (week_begin (after P S w)) (begin_lengths (after_lengths w))
        (order_below P.products (S.line.week w) f) i

    -- after it
    pub after_backlog : (w c i : ℕ) → c < P.customers → i < P.products
        → backlog_of P.products (after P S (suc w)) c i ≡ backlog_of P.products (after P S w) c i + P.demand c i w - S.sales c i w
    after_backlog w c i k l = rw (week_backlog P R (week_input P S w) (ran w) (ran_lengths w) c i k l, ran_backlog w c i)

    pub after_inventory : (w : ℕ) → WeekFormed P.products (S.line.week w) → (i : ℕ) → i < P.products
        → inventory_of (after P S (suc w)) i
        ≡ inventory_of (after P S w) i + P.line.rate i * minutes_of (S.line.week w) i - sum_below P.customers (λ c. S.sales c i w)
    after_inventory w f i l = rw (week_inventory P R (week_input P S w) (ran w) (ran_lengths w) i l, ran_inventory w f i)
