-- A plan that passes: its lines by the plan's file, and how long they are. Assumes nothing.
use Prim.Native.Nat.{ℕ, suc, ◌+◌, ◌*◌, ◌<◌, ◌≤◌}
use mathlib.Core.Path.{◌≡◌}
use mathlib.Core.List.{List, [], ◌∷◌}
use native.Mathlib.Omega.{arith}
use lib.ListN.{length, length-append}
use Rattle.mathematics.specs.Below.{join_below}
use Rattle.mathematics.specs.Order.{ProductsBelow}
use Rattle.mathematics.proofs.Join.{join_ext, join_length}
use Rattle.mathematics.proofs.Tables.{sum_few}
use Rattle.numbers.specs.Number.{Bytes}
use Rattle.sections.specs.declared.Shape.{Shape}
use Rattle.sections.specs.Limits.{most_week_minutes}
use Rattle.plant_file.specs.Plant.{Plant, plant_of}
use Rattle.plant_file.specs.Ranges.{PlantRanges}
use Rattle.slot_file.specs.Slots.{Slot, order_of_slots, WeekFormed, Slots}
use Rattle.slot_file.proofs.Orders.{order_below}
use Rattle.std.specs.Prelude.{Some}
use Rattle.costs.specs.Mounted.{Mounted}
use Rattle.units.specs.declared.Profit.{Profit}
use Rattle.machine.specs.State.{with_line, with_week}
use Rattle.costs.specs.Changeover.{changeover_to}
use Rattle.machine.specs.Machine.{week_begin}
use Rattle.machine.specs.Run.{after}
use Rattle.model.specs.RunTables.{mounted_at}
use Rattle.model.proofs.Changeovers.{total_minutes, total_changeover}
use Rattle.model.proofs.RunStates.{slots_clock}
use Rattle.model.proofs.Stops.{WeekContinues}
use Rattle.model.proofs.GivenPlans.{continued}
use Rattle.passed_plan.specs.Shown.{shown_in, Ordered}
use Rattle.passed_plan.specs.declared.PassedPlan.{PassedPlan}
use Rattle.passed_plan.proofs.PassedFacts.{Passing, PassedFacts, passed_plan, files_passing}
use Rattle.report.specs.Text.{line}
use Rattle.report.specs.Report.{slot_lines, week_lines}
use Rattle.report.specs.Weeks.{week_text}
use Rattle.report.proofs.Decimal.{decimal_length}
use Rattle.report.proofs.StoredText.{line_length}

-- ---- lines of two, two and three times five digits
lines_most : (P : Plant) (w : ℕ) → w < 26 → (m : Mounted) (t : ℕ) (xs : List Slot) → ProductsBelow 16 (order_of_slots xs)
    → t + total_minutes xs + total_changeover P.line.changeover_minutes m (order_of_slots xs) ≤ most_week_minutes
    → length (slot_lines P w m t xs) ≤ 24 * length xs
lines_most P w h m t [] b c = omega arith
lines_most P w h m t (x ∷ xs) b c =
    let change = changeover_to P.line.changeover_minutes m x.product in
    let end = t + change + x.minutes in
    let rest = slot_lines P w (Some x.product) end xs in
    omega (
      arith,
      length-append (line (w + 1) (x.product ∷ change ∷ (t + change) ∷ end ∷ [])) rest,
      line_length (w + 1) x.product change (t + change) end,
      decimal_length 1 (w + 1) (omega arith),
      decimal_length 1 x.product (omega (arith, b 0 (omega arith))),
      decimal_length 4 change (omega arith),
      decimal_length 4 (t + change) (omega arith),
      decimal_length 4 end (omega arith),
      lines_most P w h (Some x.product) end xs (λ k l. b (suc k) (omega arith)) (omega arith),
    )

week_lines_most : (P : Plant) → PlantRanges P → (S : Slots) (w : ℕ) → w < P.weeks → WeekFormed P.products (S.line.week w) → WeekContinues P S w
    → length (slot_lines P w (mounted_at P S w) 0 (S.line.week w)) ≤ 384
unfolding week_begin with_line with_week
week_lines_most P R S w l g c =
    let xs = S.line.week w in
    let n = lines_most P w (omega (arith, R.weeks_most)) (mounted_at P S w) 0 xs
    (λ k m. omega (arith, order_below P.products xs g k m, R.products_most))
    (omega (arith, c.slots.early, slots_clock P.line xs (week_begin (after P S w)), R.week_most)) in
    omega (arith, g.few, R.products_most)

-- ---- the lines of a plan that passes
pub record PassedText (f : Shape) (plant plan : List ℕ) : Type 0 where
  pub ordered : Ordered f plan
  pub lines : join_below f.weeks (week_text f plant plan) ≡ week_lines (plant_of f plant) (shown_in f plan)
  pub most : length (join_below f.weeks (week_text f plant plan)) ≤ 9984

module _ (f : Shape) (plant plan : List ℕ) (p : PassedFacts f plant plan) where
  week_text_lem : (w : ℕ) → w < f.weeks → week_text f plant plan w
      ≡ slot_lines (plant_of f plant) w (mounted_at (plant_of f plant) (shown_in f plan) w) 0 ((shown_in f plan).line.week w)
  unfolding week_text
  week_text_lem w l = rw (p.mounted w l)

  week_most : (w : ℕ) → w < f.weeks → length (week_text f plant plan w) ≤ 384
  week_most w l =
      let R = p.ranges in
      rw (week_text_lem w l) (week_lines_most (plant_of f plant) R (shown_in f plan) w l (p.given.formed w l) ((continued R p.given).0 w l))

  passed_lines : join_below f.weeks (week_text f plant plan) ≡ week_lines (plant_of f plant) (shown_in f plan)
  unfolding week_lines
  passed_lines = join_ext f.weeks _ _ week_text_lem

  passed_most : length (join_below f.weeks (week_text f plant plan)) ≤ 9984
  passed_most =
      let sum = sum_few {m = 26} 384 (λ w. length (week_text f plant plan w)) p.ranges.weeks_most week_most in
      omega (arith, join_length f.weeks (week_text f plant plan))

pub passed_text : (f : Shape) (plant plan : List ℕ) (q : Profit) → Bytes plan → Passing f plant plan q → PassedText f plant plan
passed_text f plant plan q bytes h =
    let p = passed_plan f plant plan q bytes h in
    record {
      ordered = p.ordered;
      lines = passed_lines f plant plan p;
      most = passed_most f plant plan p;
    }

-- of files that pass
pub files_text : (x : PassedPlan) → PassedText x.files.plan.shape x.files.plant.bytes.now x.files.plan.bytes.now
files_text x =
    let y = x.files in
    rw y.same (passed_text y.plant.shape y.plant.bytes.now y.plan.bytes.now x.profit y.plan.octets (files_passing x))
