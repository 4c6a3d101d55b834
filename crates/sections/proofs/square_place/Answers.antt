-- `sections::square_place` meets its contract. Assumes nothing.
use Rattle.std.proofs.Common.{arith, refl}
use native.Mathlib.Nat.{mul_assoc}
use Rattle.mathematics.proofs.Join.{table_below}
use Rattle.sections.proofs.Places.{table_small}
use Rattle.sections.proofs.square_place.Goals as goal

pub returns : goal.returns
returns c =
    let a = c.args in
    let b = table_below c.requires.0 c.requires.1 in
    let d = table_small 255 65025 c.requires.0 c.requires.1 (omega arith) (omega (arith, c.area.ensures)) in
    rw c.area.ensures.0 (refl, omega (arith, b, mul_assoc a.l a.m a.n), d)
