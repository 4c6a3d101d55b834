-- `costs::opening_mounted` meets its contract. Assumes nothing.
use Prim.Native.Nat.{◌<◌}
use Prim.{tt}
use mathlib.Core.Path.{refl, ap}
use mathlib.Core.Logic.{inl, inr}
use borrow.Author.Tests.{eq-eqb, ne_eqb}
use native.Mathlib.Omega.{arith}
use Rattle.sections.specs.Limits.{nothing_mounted}
use Rattle.plant_file.specs.Accepted.{plant_in}
use Rattle.std.specs.Prelude.{Some}
use Rattle.costs.specs.Mounted.{opening_mounted}
use Rattle.costs.proofs.opening_mounted.Goals as goal
use Rattle.costs.proofs.opening_mounted.Goals.{Else-is_nothing}

-- what is not nothing is a product
product_below : (c : Else-is_nothing) → c.mounted-product.result < c.args.plant.shape.products
product_below c = elim c.mounted-product.ensures.1 [ inl h ↦ h | inr h ↦ absurd (c.if-is_nothing.false (omega (arith, h))) ]

pub returns-then-is_nothing : goal.returns-then-is_nothing
unfolding opening_mounted
returns-then-is_nothing c =
    let a = c.args in
    let m = (plant_in a.plant).line.mounted in
    (rw (eq-eqb m nothing_mounted (omega (arith, c.mounted-product.ensures.0))) refl, tt)

pub returns : goal.returns
unfolding opening_mounted
returns c =
    let a = c.args in
    let m = (plant_in a.plant).line.mounted in
    let r = c.mounted-product.ensures.0 in (
      rw (ne_eqb m nothing_mounted (λ e. c.if-is_nothing.false (omega (arith, r, e)))) (ap Some r),
      product_below (goal.at.returns c).Else-is_nothing,
    )

pub overflow_cast-result : goal.overflow_cast-result
overflow_cast-result c =
    omega (arith, product_below (goal.at.overflow_cast-result c).Else-is_nothing)
