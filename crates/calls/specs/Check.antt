-- Checking: the profit of a plan that passes, or the number of its refusal. Assumes nothing.
use Rattle.std.specs.Prelude.{ℕ, List}
use Rattle.std.specs.Prelude.{Result, Err, Ok}
use Rattle.sections.specs.declared.Refusal.{Refusal}
use Rattle.units.specs.declared.Profit.{Profit}
use Rattle.passed_plan.specs.Judgement.{Judgement, judgement_of}

abbrev pub Check : Type 0
Check = Result Profit Refusal

abbrev pub check_from : Judgement → Check
check_from (Ok p) = Ok p.profit
check_from (Err n) = Err n

unfoldable pub check_of : (plant plan : List ℕ) → Check
check_of plant plan = check_from (judgement_of plant plan)
