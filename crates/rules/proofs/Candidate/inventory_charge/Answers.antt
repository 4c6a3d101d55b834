-- `rules::Candidate::inventory_charge` meets its contract. Assumes nothing.
use native.Mathlib.Omega.{arith}
use mathlib.Core.Path.{◌≡◌}
use Rattle.rules.specs.Rules.{inventory_charge_in}
use Rattle.rules.proofs.Candidates.{products_few}
use Rattle.rules.proofs.Candidate.inventory_charge.Goals as goal

pub returns : goal.returns
unfolding inventory_charge_in
returns c =
    let s = c.args.self in
    let e : c.loop-product.product ≡ s.plant.shape.products = omega (arith, c.from-product-end.ensures) in
    let i = rw e at c.loop-product.invariant in
    (i.0, omega (arith, i.1, products_few s))
