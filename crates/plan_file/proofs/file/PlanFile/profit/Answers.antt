-- `plan_file::file::PlanFile::profit` meets its contract. Assumes nothing.
use native.Mathlib.Omega.{arith}
use mathlib.Core.Path.{refl, ap, ◌∙◌}
use mir.Syntax.{w64}
use mir.Val.{of_z, to_z}
use mir.ValLaws.{to_z-of_z}
use lib.IntN.{ℤ}
use Rattle.numbers.specs.Signed.{signed_of}
use Rattle.numbers.proofs.TwosComplement.{signed_fits}
use Rattle.sections.proofs.Rows.{width8}
use Rattle.plan_file.specs.Plan.{plan_of}
use Rattle.plan_file.proofs.Access.{inside}
use Rattle.plan_file.proofs.file.PlanFile.profit.Goals as goal

pub cell_in-requires : goal.cell_in-requires
cell_in-requires c =
    inside _ _ c.args.self.accepted 11 (omega arith) {m = 1} width8 refl (omega arith)

pub returns : goal.returns
unfolding plan_of
returns c =
    let v = c.cell_in.result in
    ap (λ (z : ℤ). to_z w64 (of_z w64 z)) c.signed.ensures
    ∙ (to_z-of_z w64 _ (signed_fits v c.cell_in.type_inv) ∙ ap signed_of c.cell_in.ensures)
