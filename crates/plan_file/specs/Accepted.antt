-- The numbers of an accepted plan file. Assumes nothing.
use Rattle.plan_file.specs.Plan.{Plan, plan_of}
use Rattle.plan_file.specs.declared.file.PlanFile.{PlanFile}

abbrev pub plan_in : PlanFile → Plan
plan_in plan = plan_of plan.shape plan.bytes.now
