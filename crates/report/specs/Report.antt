-- What planreport prints, as paper 01 has it under "The small plant". Assumes nothing.
use Rattle.std.specs.Prelude.{ℕ, ◌+◌, List, [], ◌∷◌, ◌++◌}
use Rattle.mathematics.specs.Below.{join_below}
use Rattle.plant_file.specs.Plant.{Plant, plant_of}
use Rattle.slot_file.specs.Slots.{Slot, Slots}
use Rattle.std.specs.Prelude.{Err, Ok, Some}
use Rattle.costs.specs.Mounted.{Mounted}
use Rattle.costs.specs.Changeover.{changeover_to}
use Rattle.model.specs.RunTables.{mounted_at}
use Rattle.passed_plan.specs.Judgement.{Judgement, judgement_of}
use Rattle.passed_plan.specs.Shown.{shown_in}
use Rattle.sections.specs.Rows.{refusal_number}
use Rattle.calls.specs.Check.{Check, check_of}
use Rattle.report.specs.Text.{decimal, signed_decimal, line}

-- "a line for each slot in running order: week from 1, product, changeover minutes, start, end of run", where m is mounted and the clock
-- stands at t before the slots
abbrev pub slot_lines : Plant → (w : ℕ) → Mounted → (t : ℕ) → List Slot → List ℕ
slot_lines P w m t [] = []
slot_lines P w m t (x ∷ xs) =
    let change = changeover_to P.line.changeover_minutes m x.product in
    line (w + 1) (x.product ∷ change ∷ (t + change) ∷ (t + change + x.minutes) ∷ [])
    ++ slot_lines P w (Some x.product) (t + change + x.minutes) xs

unfoldable pub week_lines : Plant → Slots → List ℕ
week_lines P S = join_below P.weeks (λ w. slot_lines P w (mounted_at P S w) 0 (S.line.week w))

-- "passed " and the profit in mc; "refused " and the number
unfoldable pub first_line : Check → List ℕ
first_line (Ok q) = 112 ∷ 97 ∷ 115 ∷ 115 ∷ 101 ∷ 100 ∷ 32 ∷ (signed_decimal q.0 ++ (10 ∷ []))
first_line (Err n) = 114 ∷ 101 ∷ 102 ∷ 117 ∷ 115 ∷ 101 ∷ 100 ∷ 32 ∷ (decimal (refusal_number n) ++ (10 ∷ []))

-- the slots of a plan that passes; "A refusal prints `refused` and its number alone."
abbrev pub lines_of : Judgement → (plant plan : List ℕ) → List ℕ
lines_of (Ok p) plant plan = week_lines (plant_of p.shape plant) (shown_in p.shape plan)
lines_of (Err n) plant plan = []

unfoldable pub report_text : (plant plan : List ℕ) → List ℕ
report_text plant plan = first_line (check_of plant plan) ++ lines_of (judgement_of plant plan) plant plan
