-- The lines of a plan's weeks, by its file. Assumes nothing.
use Rattle.std.specs.Prelude.{ℕ, List}
use Rattle.sections.specs.declared.Shape.{Shape}
use Rattle.plant_file.specs.Plant.{plant_of}
use Rattle.passed_plan.specs.Shown.{week_mounted, week_slots}
use Rattle.report.specs.Report.{slot_lines}

-- the lines of week w
unfoldable pub week_text : Shape → (plant plan : List ℕ) → ℕ → List ℕ
week_text f plant plan w = slot_lines (plant_of f plant) w (week_mounted f plant plan w) 0 (week_slots f plan w)
