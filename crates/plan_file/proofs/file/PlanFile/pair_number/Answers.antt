-- `plan_file::file::PlanFile::pair_number` meets its contract. Assumes nothing.
use native.Mathlib.Omega.{arith}
use mathlib.Core.Path.{◌≡◌, sym, ◌∙◌}
use Rattle.plan_file.proofs.Access.{pair_holds, pair_reads}
use Rattle.plan_file.proofs.file.PlanFile.pair_number.Goals as goal

pub pair_row-row-requires : goal.pair_row-row-requires
pair_row-row-requires c =
    let a = c.args in
    (rw c.place.ensures (pair_holds a.table a.self.shape a.self.bytes.now a.self.accepted), omega (arith, c.requires.0))

pub returns : goal.returns
returns c =
    let a = c.args in
    let r = c.pair_row-row.ensures in
    let pair : c.pair_row-row.result.pair ≡ a.pair = omega (arith, r.2) in
    let e = rw (r.1, pair, c.place.ensures) at c.pair_number.ensures in
    (e.0 ∙ sym (pair_reads a.table a.self.shape a.self.bytes.now a.pair a.week), e.1)
