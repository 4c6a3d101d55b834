-- The numbers of a plant file and a slot file that have run, and the tables of their run. Assumes nothing.
use Rattle.plant_file.specs.Plant.{Plant, plant_of}
use Rattle.plan_file.specs.Plan.{Plan}
use Rattle.slot_file.specs.Slots.{Slots, slots_of}
use Rattle.model.specs.RunTables.{run_tables}
use Rattle.plan_writing.specs.declared.RanFiles.{RanFiles}

-- both have one shape
abbrev pub ran_plant : RanFiles → Plant
ran_plant files = plant_of files.slots.shape files.plant.bytes.now

abbrev pub ran_slots : RanFiles → Slots
ran_slots files = slots_of files.slots.shape files.slots.bytes.now

abbrev pub tables_in : RanFiles → Plan
tables_in files = run_tables (ran_plant files) (ran_slots files)
