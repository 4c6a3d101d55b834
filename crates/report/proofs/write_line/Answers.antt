-- `report::write_line` meets its contract. Assumes nothing.
use native.Mathlib.Omega.{arith}
use mathlib.Core.Path.{◌≡◌}
use mathlib.Core.List.{[], ◌∷◌}
use Prim.Native.Nat.{◌+◌}
use lib.ListN.{length}
use Rattle.report.specs.Text.{decimal, line}
use Rattle.report.proofs.StoredText.{stored_both, line_fields, line_length}
use Rattle.report.proofs.write_line.Goals as goal
use Rattle.report.proofs.write_line.Goals.{Start}

size : (c : Start) → let a = c.args in length (line a.week (a.product ∷ a.change ∷ a.start ∷ a.end ∷ []))
    ≡ length (decimal a.week) + length (decimal a.product) + length (decimal a.change) + length (decimal a.start)
    + length (decimal a.end) + 5
size c = let a = c.args in line_length a.week a.product a.change a.start a.end

pub write_field-d-requires : goal.write_field-d-requires
write_field-d-requires c =
    omega (arith, size (goal.at.write_field-d-requires c).Start)

pub write_field-requires : goal.write_field-requires
write_field-requires c =
    omega (arith, size (goal.at.write_field-requires c).Start)

pub returns : goal.returns
returns c =
    let s = c in
    let a = s.args in
    let both = stored_both {s = a.out.now} (omega (arith, size (goal.at.returns s).Start)) c.write_field-a.ensures.0 c.write_field-b.ensures.0 in
    let three = stored_both (omega (arith, size (goal.at.returns s).Start)) both c.write_field-c.ensures.0 in
    let four = stored_both (omega (arith, size (goal.at.returns s).Start)) three c.write_field-d.ensures.0 in
    let five = stored_both (omega (arith, size (goal.at.returns s).Start)) four c.write_field.ensures.0 in
    rw (line_fields a.week a.product a.change a.start a.end) at five

pub write_field-a-requires : goal.write_field-a-requires
write_field-a-requires c =
    omega (arith, size (goal.at.write_field-a-requires c).Start)

pub write_field-b-requires : goal.write_field-b-requires
write_field-b-requires c =
    omega (arith, size (goal.at.write_field-b-requires c).Start)

pub write_field-c-requires : goal.write_field-c-requires
write_field-c-requires c =
    omega (arith, size (goal.at.write_field-c-requires c).Start)
