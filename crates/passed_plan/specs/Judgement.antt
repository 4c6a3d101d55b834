-- Whether a plan passes: the plant's rows, then the plan's, then the rules, each in order. Assumes nothing.
use Rattle.std.specs.Prelude.{ℕ, List}
use Rattle.sections.specs.declared.Shape.{Shape}
use Rattle.std.specs.Prelude.{Result, Err, Ok}
use Rattle.sections.specs.declared.Refusal.{Refusal}
use Rattle.passed_plan.specs.declared.Pass.{Pass}
use Rattle.sections.specs.Rows.{Form}
use Rattle.plant_file.specs.Plant.{plant_of}
use Rattle.plant_file.specs.Form.{plant_form}
use Rattle.plan_file.specs.Plan.{plan_of}
use Rattle.plan_file.specs.Form.{plan_form}
use Rattle.rules.specs.Verdict.{Verdict, verdict_of}

abbrev pub Judgement : Type 0
Judgement = Result Pass Refusal

-- a file refused by its rows, or what follows for a good one
abbrev pub after_rows : Form → (Shape → Judgement) → Judgement
after_rows (Ok f) next = next f
after_rows (Err n) next = Err n

-- the shape and the profit of a plan that passes, or the number of the first rule broken
abbrev pub after_rules : Shape → Verdict → Judgement
after_rules f (Ok q) = Ok (record { shape = f; profit = q })
after_rules f (Err n) = Err n

-- what follows the plant's rows
unfoldable pub plan_judgement : Shape → (plant plan : List ℕ) → Judgement
plan_judgement f plant plan = after_rows (plan_form f plan) (λ _. after_rules f (verdict_of (plant_of f plant) (plan_of f plan)))

unfoldable pub judgement_of : (plant plan : List ℕ) → Judgement
judgement_of plant plan = after_rows (plant_form plant) (λ f. plan_judgement f plant plan)
