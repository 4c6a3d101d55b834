-- `plant_file::PlantFile::shut_before` meets its contract. Assumes nothing.
use Rattle.plant_file.specs.Plant.{shut_before_in}
use Rattle.plant_file.proofs.PlantAccess.{answer, ranges, laid}
use Rattle.plant_file.proofs.file.PlantFile.shut_before.Goals as goal

pub returns : goal.returns
unfolding shut_before_in
returns c = answer c.opening_byte.ensures (ranges c.args.self).line.shut_before_most

pub invariant_of-opening_byte : goal.invariant_of-opening_byte
invariant_of-opening_byte c = record { laid = laid c.args.self }
