-- When slots give a plan, and the slots that a plan shows. Assumes nothing.
use Rattle.std.specs.Prelude.{ℕ, ◌<◌, ◌≡◌, List, [], ◌∷◌}
use Rattle.mathematics.specs.Order.{order_of}
use Rattle.plant_file.specs.Plant.{Plant, shape_of_plant}
use Rattle.plan_file.specs.Plan.{LinePlan, Plan, SamePlan}
use Rattle.slot_file.specs.Slots.{Slot, WeekFormed, LineSlots, Slots}
use Rattle.machine.specs.declared.State.{State}
use Rattle.machine.specs.State.{continues}
use Rattle.machine.specs.Run.{run}
use Rattle.rules.specs.Rules.{week_of}
use Rattle.model.specs.RunTables.{run_tables}

-- row 24, of every week
abbrev pub Formed : Plant → Slots → Type 0
Formed P S = (w : ℕ) → w < P.weeks → WeekFormed P.products (S.line.week w)

-- the slots run without a stop to the state s, and the run's tables are the plan's
pub record Gives (P : Plant) (S : Slots) (s : State) (x : Plan) : Type 0 where
  pub formed : Formed P S
  pub runs : run P S ≡ continues s
  pub same : SamePlan (shape_of_plant P) x (run_tables P S)

-- the slots of an order, with the minutes of a table
abbrev pub slots_for : (ℕ → ℕ) → List ℕ → List Slot
slots_for minutes [] = []
slots_for minutes (p ∷ ps) = record { product = p; minutes = minutes p } ∷ slots_for minutes ps

-- the slots that a line's plan shows, of N products: each week's order read off E and O, the minutes off T
unfoldable pub line_shown : ℕ → LinePlan → LineSlots
line_shown N x = record { week = λ w. slots_for (x.minutes w) (order_of N (week_of x w)) }

-- and the sales off S
unfoldable pub slots_shown : ℕ → Plan → Slots
slots_shown N x = record { line = line_shown N x.line; sales = x.sales }
