-- The lines of a plan that passes. Assumes nothing.
use Rattle.std.specs.Prelude.{ℕ, List}
use Rattle.report.specs.Weeks.{week_text}
use Rattle.report.specs.declared.PassedFiles.{PassedFiles}

abbrev pub week_in : PassedFiles → ℕ → List ℕ
week_in passed w = let x = passed.files in week_text x.plan.shape x.plant.bytes.now x.plan.bytes.now w
