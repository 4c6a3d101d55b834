-- The weeks of a run that never stops: their form, and inventory and backlog week by week. Assumes nothing.
use Prim.Native.Nat.{ℕ, zero, suc, ◌+◌, ◌*◌, ◌-◌, ◌≤◌, ◌<◌}
use mathlib.Core.Path.{◌≡◌, sym, ap, ◌∙◌}
use mathlib.Core.Bool.{true}
use mathlib.Core.List.{List}
use native.Mathlib.Omega.{arith}
use Rattle.mathematics.specs.Below.{sum_below}
use Rattle.mathematics.specs.Order.{is_order}
use Rattle.sections.specs.declared.Shape.{Shape}
use Rattle.std.specs.Prelude.{Ok}
use Rattle.sections.specs.Limits.{most_storage}
use Rattle.plant_file.specs.Plant.{Plant, plant_of}
use Rattle.plant_file.specs.Form.{plant_form}
use Rattle.plant_file.specs.Ranges.{PlantRanges}
use Rattle.plant_file.proofs.PlantInRange.{plant_ranges}
use Rattle.slot_file.specs.Slots.{WeekFormed, Slots, slots_of, order_of_slots}
use Rattle.slot_file.specs.declared.WeekRow.{WeekRow}
use Rattle.slot_file.proofs.SlotReads.{slots_formed}
use Rattle.machine.specs.declared.State.{State}
use Rattle.machine.specs.State.{inventory_of, backlog_of, continues}
use Rattle.machine.specs.Run.{run, after}
use Rattle.costs.specs.Mounted.{mounted_below}
use Rattle.model.specs.RunTables.{minutes_of, mounted_at, run_tables}
use Rattle.model.proofs.States.{opening_inventory, opening_backlog}
use Rattle.model.proofs.RunStates.{mounted_below_lem, ran_backlog, ran_inventory, after_backlog, after_inventory}
use Rattle.model.proofs.RunRules.{run_order}
use Rattle.model.proofs.Stops.{WeekContinues, run_continued}
use Rattle.plan_writing.specs.Ran.{Ran}
use Rattle.plan_writing.proofs.WeekRows.{RunWeek}

pub times_same : {a b x y : ℕ} → a ≡ b → x ≡ y → a * x ≡ b * y
times_same e d = λ u. e u * d u

-- a plant has products and weeks
pub sides : (f : Shape) (plant : List ℕ) → plant_form plant ≡ Ok f → (0 < f.products) × (0 < f.weeks)
sides f plant good = let r = plant_ranges plant f good in (omega (arith, r.products_least), omega (arith, r.weeks_least))

-- and not many products
pub few_products : (f : Shape) (plant : List ℕ) → plant_form plant ≡ Ok f → f.products ≤ 16
few_products f plant good = (plant_ranges plant f good).products_most

module _ (f : Shape) (plant slots : List ℕ) (h : Ran f plant slots) where
  abbrev P : Plant
  P = plant_of f plant

  abbrev S : Slots
  S = slots_of f slots

  ranges : PlantRanges P
  ranges = plant_ranges plant f h.plant_good

  -- row 24, of every week
  formed : (w : ℕ) → w < f.weeks → WeekFormed f.products (S.line.week w)
  formed = slots_formed f slots h.slots_good

  all_continue : ((w : ℕ) → w < f.weeks → WeekContinues P S w) × (after P S f.weeks ≡ (run P S).state)
  all_continue =
      let r = run P S in
      let e : r ≡ continues r.state = λ u. record { state = r.state; outcome = h.continued u } in
      run_continued P ranges S formed r.state e

  week_continues : (w : ℕ) → w < f.weeks → WeekContinues P S w
  week_continues = all_continue.0

  -- no week has a product twice
  pub week_once : (w : ℕ) → w < f.weeks → is_order f.products (order_of_slots (S.line.week w)) ≡ true
  week_once w l = run_order P ranges S w (formed w l) (week_continues w l)

  pub week_row : (row : WeekRow) → row.file.shape ≡ f → row.file.bytes.now ≡ slots → row.week < f.weeks → RunWeek row
  week_row row g b l =
      record {
        week = omega (arith, l, ap (λ (k : Shape). k.weeks) g);
        once = (λ u. is_order (g u).products (order_of_slots ((slots_of (g u) (b u)).line.week row.week))) ∙ week_once row.week l;
      }

  -- what is mounted is one of the products
  pub mounted_known_lem : (w : ℕ) → w ≤ f.weeks → mounted_below f.products (mounted_at P S w)
  mounted_known_lem w l = mounted_below_lem P S ranges.line w (λ u k. formed u (omega arith))

  -- the profit of the tables is the run's
  pub profit_is : (run P S).state.profit.0 ≡ (run_tables P S).profit
  unfolding run_tables
  profit_is = sym (ap (λ (s : State). s.profit.0) all_continue.1)

  module _ (i : ℕ) (k : i < f.products) where
    pub inventory_first : P.opening_inventory i ≡ inventory_of (after P S 0) i
    inventory_first = sym (opening_inventory P ranges i k)

    pub inventory_next : (w : ℕ) → w < f.weeks
        → inventory_of (after P S w) i + P.line.rate i * minutes_of (S.line.week w) i - sum_below f.customers (λ c. S.sales c i w)
        ≡ inventory_of (after P S (w + 1)) i
    inventory_next w l =
        let n : suc w ≡ w + 1 = omega arith in
        sym (after_inventory P S ranges w (formed w l) i k) ∙ ap (λ (v : ℕ). inventory_of (after P S v) i) n

    -- no stop 39, no stop 40
    pub inventory_covers : (w : ℕ) → w < f.weeks
        → sum_below f.customers (λ c. S.sales c i w) ≤ inventory_of (after P S w) i + P.line.rate i * minutes_of (S.line.week w) i
    inventory_covers w l =
        omega (arith, (week_continues w l).ends.stocked i k, ran_inventory P S ranges w (formed w l) i)

    pub inventory_limit : (w : ℕ) → w < f.weeks → inventory_of (after P S w) i ≤ most_storage
    inventory_limit zero l = omega (arith, inventory_first, ranges.opening_inventory_most i k)
    inventory_limit (suc w) l = omega (arith, (week_continues w (omega arith)).ends.most i k, ranges.storage_most i k)

    module _ (c : ℕ) (d : c < f.customers) where
      pub backlog_first : P.opening_backlog c i ≡ backlog_of f.products (after P S 0) c i
      backlog_first = sym (opening_backlog P ranges c i d k)

      pub backlog_next : (w : ℕ) → w < f.weeks
          → backlog_of f.products (after P S w) c i + P.demand c i w - S.sales c i w ≡ backlog_of f.products (after P S (w + 1)) c i
      backlog_next w l =
          let n : suc w ≡ w + 1 = omega arith in
          sym (after_backlog P S ranges w c i d k) ∙ ap (λ (v : ℕ). backlog_of f.products (after P S v) c i) n

      -- no stop 38
      pub backlog_covers : (w : ℕ) → w < f.weeks → S.sales c i w ≤ backlog_of f.products (after P S w) c i + P.demand c i w
      backlog_covers w l = omega (arith, (week_continues w l).ends.due c i d k, ran_backlog P S ranges w c i)
