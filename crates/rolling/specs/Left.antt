-- The plant that is left after the weeks that have run, and its shape. Assumes nothing.
use Rattle.sections.specs.declared.Shape.{Shape}
use Rattle.plant_file.specs.Plant.{Plant}
use Rattle.plant_file.specs.Accepted.{plant_in}
use Rattle.plant_file.specs.Rates.{listed_rate}
use Rattle.plan_file.specs.Accepted.{plan_in}
use Rattle.model.specs.Rolled.{rolled_shape, rolled_plant}
use Rattle.rolling.specs.declared.Rolled.{Rolled}

abbrev pub left_shape : Rolled → Shape
left_shape r = rolled_shape r.files.plant.shape r.weeks

abbrev pub left_plant : Rolled → Plant
left_plant r = rolled_plant (plant_in r.files.plant) (plan_in r.files.plan) r.weeks (listed_rate r.rates.bytes.now)
