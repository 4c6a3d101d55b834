-- `plant_file::PlantFile::mounted` meets its contract. Assumes nothing.
use Rattle.plant_file.specs.Plant.{mounted_in}
use Rattle.plant_file.proofs.PlantAccess.{ranges, laid}
use Rattle.plant_file.proofs.file.PlantFile.mounted.Goals as goal

pub returns : goal.returns
unfolding mounted_in
returns c =
    let r = c.opening_byte.ensures in
    (r, rw r (ranges c.args.self).line.mounted_known_lem)

pub invariant_of-opening_byte : goal.invariant_of-opening_byte
invariant_of-opening_byte c = record { laid = laid c.args.self }
