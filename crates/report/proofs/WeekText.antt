-- The lines of a week, slot by slot, and of the weeks. Assumes nothing.
use Prim.Native.Nat.{ℕ, zero, suc, ◌+◌, ◌<◌, ◌≤◌}
use mathlib.Core.Path.{◌≡◌, refl, ap}
use mathlib.Core.List.{List, [], ◌∷◌, ◌++◌}
use native.Mathlib.Omega.{arith}
use native.Mathlib.Numerals.{add-one}
use lib.ListN.{length, drop}
use Rattle.mathematics.specs.Below.{list_below, join_below}
use Rattle.mathematics.specs.Order.{order_of}
use Rattle.mathematics.proofs.Below.{sum_prefix}
use Rattle.mathematics.proofs.Join.{join_length}
use Rattle.sections.specs.declared.Shape.{Shape}
use Rattle.std.specs.Prelude.{Some}
use Rattle.costs.specs.Mounted.{Mounted}
use Rattle.plant_file.specs.Plant.{plant_of}
use Rattle.plan_file.specs.Plan.{plan_of}
use Rattle.costs.specs.Changeover.{changeover_to}
use Rattle.model.specs.Match.{slots_for, line_shown, slots_shown}
use Rattle.passed_plan.specs.Shown.{week_count, week_product, week_mounted, week_slots}
use Rattle.report.specs.Text.{line}
use Rattle.report.specs.Report.{slot_lines}
use Rattle.report.specs.Weeks.{week_text}
use Rattle.report.specs.declared.PassedFiles.{PassedFiles}

slots_drop : (minutes : ℕ → ℕ) (n : ℕ) (product : ℕ → ℕ) (k : ℕ) → k < n
    → drop k (slots_for minutes (list_below n product))
    ≡ record { product = product k; minutes = minutes (product k) } ∷ drop (suc k) (slots_for minutes (list_below n product))
slots_drop minutes zero product k l = absurd (omega arith)
slots_drop minutes (suc n) product zero l = refl
slots_drop minutes (suc n) product (suc k) l = slots_drop minutes n (λ j. product (suc j)) k (omega arith)

slots_end : (minutes : ℕ → ℕ) (n : ℕ) (product : ℕ → ℕ) → drop n (slots_for minutes (list_below n product)) ≡ []
slots_end minutes zero product = refl
slots_end minutes (suc n) product = slots_end minutes n (λ j. product (suc j))

-- the lines of week w from slot k on, where m is mounted and the clock stands at t
abbrev pub lines_from : Shape → (plant plan : List ℕ) → ℕ → Mounted → (t k : ℕ) → List ℕ
lines_from f plant plan w m t k = slot_lines (plant_of f plant) w m t (drop k (week_slots f plan w))

abbrev pub lines_in : PassedFiles → ℕ → Mounted → (t k : ℕ) → List ℕ
lines_in passed w m t k = let x = passed.files in lines_from x.plan.shape x.plant.bytes.now x.plan.bytes.now w m t k

module _ (f : Shape) (plant plan : List ℕ) (w : ℕ) where
  week_drop : (k : ℕ) → k < week_count f plan w → drop k (week_slots f plan w)
      ≡ record { product = week_product f plan w k; minutes = (plan_of f plan).line.minutes w (week_product f plan w k) }
      ∷ drop (suc k) (week_slots f plan w)
  unfolding slots_shown line_shown week_count week_product order_of
  week_drop k l = slots_drop ((plan_of f plan).line.minutes w) (week_count f plan w) (week_product f plan w) k l

  pub lines_all : week_text f plant plan w ≡ lines_from f plant plan w (week_mounted f plant plan w) 0 0
  unfolding week_text
  lines_all = refl

  pub lines_next : (m : Mounted) (t k product minutes change : ℕ) → k < week_count f plan w → product ≡ week_product f plan w k
      → minutes ≡ (plan_of f plan).line.minutes w product → change ≡ changeover_to (plant_of f plant).line.changeover_minutes m product
      → lines_from f plant plan w m t k
      ≡ line (w + 1) (product ∷ change ∷ (t + change) ∷ (t + change + minutes) ∷ [])
      ++ lines_from f plant plan w (Some product) (t + change + minutes) (k + 1)
  lines_next m t k product minutes change l p n c = rw (c, n, p, add-one k) (ap (slot_lines (plant_of f plant) w m t) (week_drop k l))

  pub lines_end : (m : Mounted) (t : ℕ) → lines_from f plant plan w m t (week_count f plan w) ≡ []
  unfolding slots_shown line_shown week_count order_of
  lines_end m t = ap (slot_lines (plant_of f plant) w m t) (slots_end ((plan_of f plan).line.minutes w) (week_count f plan w) _)

-- a week's lines stand within those of all
pub join_room : (n : ℕ) (g : ℕ → List ℕ) (w : ℕ) → w < n → length (join_below w g) + length (g w) ≤ length (join_below n g)
join_room n g w l = omega (arith, join_length n g, join_length w g, sum_prefix n (λ i. length (g i)) (suc w) l)
