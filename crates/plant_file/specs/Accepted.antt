-- The numbers of an accepted plant file. Assumes nothing.
use Rattle.plant_file.specs.Plant.{Plant, plant_of}
use Rattle.plant_file.specs.declared.file.PlantFile.{PlantFile}

abbrev pub plant_in : PlantFile → Plant
plant_in file = plant_of file.shape file.bytes.now
