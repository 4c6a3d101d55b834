-- THE SECOND DEMAND, over checking's own definition: a plan passes if and only if its tables meet the published model, and the profit is
-- the model's, exact. Assumes nothing.
use Rattle.std.specs.Prelude.{ℕ, ◌≡◌, ◌↔◌, List}
use Rattle.sections.specs.declared.Shape.{Shape}
use Rattle.plant_file.specs.Plant.{plant_of}
use Rattle.plan_file.specs.Plan.{plan_of}
use Rattle.units.specs.declared.Profit.{Profit}
use Rattle.model.specs.Model.{Model, objective}
use Rattle.std.specs.Prelude.{Ok}
use Rattle.calls.specs.Check.{check_of}

-- for an accepted plant file, and a plan file past rows 11 to 14
pub record SecondDemand (plant : List ℕ) (f : Shape) (plan : List ℕ) : Type 0 where
  pub passes_exactly : ((q : Profit) × (check_of plant plan ≡ Ok q))
      ↔ (Model (plant_of f plant) (plan_of f plan) × ((plan_of f plan).profit ≡ objective (plant_of f plant) (plan_of f plan)))
  pub profit : (q : Profit) → check_of plant plan ≡ Ok q → q.0 ≡ objective (plant_of f plant) (plan_of f plan)
