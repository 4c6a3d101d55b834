-- `plant_file::PairDemand::demand` meets its contract. Assumes nothing.
use native.Mathlib.Omega.{arith}
use mathlib.Core.Path.{◌≡◌, ap, ◌∙◌}
use Prim.Native.Nat.{◌+◌, ◌*◌}
use Rattle.mathematics.proofs.Pairs.{pair_of}
use Rattle.contents.specs.Contents.{cell}
use Rattle.plant_file.specs.Plant.{demand_in}
use Rattle.plant_file.proofs.PlantAccess.{answer, demand_held, ranges}
use Rattle.plant_file.proofs.file.PairDemand.demand.Goals as goal

pub pair_number-requires : goal.pair_number-requires
pair_number-requires c =
    let a = c.args.self in
    (record { holds = demand_held a.file; known = a.known; at = a.begins }, omega (arith, c.requires))

pub returns : goal.returns
unfolding demand_in
returns c =
    let a = c.args.self in
    let p = pair_of _ _ _ a.known in
    let number : c.pair_number.result ≡ cell 4 a.file.bytes.now 4 (a.pair * a.file.shape.weeks + c.args.week) =
    c.pair_number.ensures.0 ∙ ap (cell 4 a.file.bytes.now 4) (omega arith) in
    answer (number ∙ rw p.number) ((ranges a.file).demand_most _ _ _ p.row p.column c.requires)
