-- `machine::State::inventory_update` meets its contract: the loop has tried, stored and added the products below `product`. Assumes nothing.
use Prim.Native.Nat.{◌+◌, ◌*◌, ◌-◌, ◌<◌, ◌≤◌}
use mathlib.Core.Path.{◌≡◌, refl, sym, ◌∙◌}
use mathlib.Core.Bool.{true, false}
use borrow.Author.Rules.{rules}
use borrow.Author.Tests.{tests}
use native.Mathlib.Omega.{arith}
use native.Mathlib.Numerals.{add-one}
use lib.ListN.{length, get_or}
use Rattle.mathematics.proofs.Below.{all_fails}
use Rattle.sections.specs.Limits.{most_rate, most_storage, most_week_minutes}
use Rattle.plant_file.specs.Accepted.{plant_in}
use Rattle.machine.specs.State.{inventory_of}
use Rattle.machine.specs.Machine.{sold_of, sales_in_stock, inventory_after, storage_kept}
use Rattle.machine.specs.Input.{week_in}
use Rattle.machine.proofs.Plants.{few}
use Rattle.machine.proofs.ProductTables.{inventory_at, in_stock_at, in_stock_all, inventory_all, kept_all, charge_all}
use Rattle.machine.proofs.Stores.{cell_next, cell_stored}
use Rattle.machine.proofs.State.inventory_update.Goals as goal
use Rattle.machine.proofs.State.inventory_update.Goals.{After-sold}

module _ (c : After-sold) where
  -- the product is one of the plant's, and its inventory is as it was
  known : c.loop-product.product < c.args.input.plant.shape.products
  known = omega (arith, c.from-product-end.ensures)

  same : get_or c.loop-product.inventory c.loop-product.product 0 ≡ get_or c.args.self.inventory c.loop-product.product 0
  same = cell_next _ _ _ _ c.loop-product.invariant.0

  -- what is sold of it
  sold : c.sold.result ≡ sold_of (plant_in c.args.input.plant) (week_in c.args.input c.args.week) c.loop-product.product
  sold = rw c.args.input.same at c.sold.ensures.0

  -- what is left
  left : get_or c.loop-product.inventory c.loop-product.product 0 - c.sold.result
      ≡ inventory_at (plant_in c.args.input.plant) (week_in c.args.input c.args.week) c.loop-product.product
      (get_or c.args.self.inventory c.loop-product.product 0)
  left = rw (same, sold)

  before_most : get_or c.loop-product.inventory c.loop-product.product 0 ≤ most_storage + 16 * (most_rate * most_week_minutes)
  unfolding inventory_of
  before_most = omega (arith, same, c.requires.1.inventory_most _ known)

pub bounds-inventory-product : goal.bounds-inventory-product
bounds-inventory-product c = omega (arith, (few c.args.input.plant).products)

pub bounds-inventory-product-in-loop-product : goal.bounds-inventory-product-in-loop-product
bounds-inventory-product-in-loop-product c = omega (arith, (few c.args.input.plant).products)

pub charge-held-requires : goal.charge-held-requires
charge-held-requires c =
    (search rules, omega (arith, before_most (goal.at.charge-held-requires c).After-sold))

pub overflow_add-cost : goal.overflow_add-cost
overflow_add-cost c =
    let at = (goal.at.overflow_add-cost c).After-sold in
    omega (arith, c.charge-held.ensures.1, before_most at, c.loop-product.invariant.4, known at, (few c.args.input.plant).products)

pub loop-product-preserved : goal.loop-product-preserved
loop-product-preserved c =
    let b = c.loop-product in
    let at = (goal.at.loop-product-preserved c).After-sold in (
      cell_stored _ _ _ _ b.invariant.0 _ (c.less-left.ensures ∙ left at),
      rw (add-one, b.invariant.1, ← (sold at), ← (same at)) (search (rules, tests)),
      rw (add-one, ← b.invariant.2, ← (left at), ← c.less-left.ensures) (search (rules, tests)),
      rw (add-one, ← (left at), ← c.less-left.ensures, ← c.inventory_cost.ensures.0) (omega (arith, b.invariant.3, c.charge-held.ensures.0)),
      omega (arith, b.invariant.4, c.charge-held.ensures.1, before_most at),
    )

-- sales that exceed the stock of one product
pub returns-then-lt : goal.returns-then-lt
returns-then-lt c =
    let a = c.args in
    let P = plant_in a.input.plant in
    let v = week_in a.input a.week in
    let at = (goal.at.returns-then-lt c).After-sold in
    let short : in_stock_at P v a.self.inventory c.loop-product.product ≡ false = rw (← (sold at), ← (same at)) (search (rules, tests)) in
    let e : sales_in_stock P v a.self ≡ false =
    sym (in_stock_all P v a.self P.products refl) ∙ all_fails _ _ c.loop-product.product (known at) short in
    rw e

pub returns-then-not-kept : goal.returns-then-not-kept
returns-then-not-kept c =
    let a = c.args in
    let b = c.loop-product in
    let n = (few a.input.plant).products in
    let e : b.product ≡ a.input.plant.shape.products = omega (arith, c.from-product-end.ensures) in
    let room : a.input.plant.shape.products ≤ length a.self.inventory = omega (arith, c.requires.1.inventory_long, n) in
    let stocked : sales_in_stock (plant_in a.input.plant) (week_in a.input a.week) a.self ≡ true = sym (in_stock_all _ _ _ _ e) ∙ b.invariant.1 in
    let full : storage_kept (plant_in a.input.plant) (inventory_after (plant_in a.input.plant) (week_in a.input a.week) a.self) ≡ false =
    sym (kept_all _ _ _ _ e room) ∙ (sym b.invariant.2 ∙ c.if-not-kept.true) in
    rw (stocked, full)

pub returns : goal.returns
returns c =
    let a = c.args in
    let b = c.loop-product in
    let n = (few a.input.plant).products in
    let e : b.product ≡ a.input.plant.shape.products = omega (arith, c.from-product-end.ensures) in
    let room : a.input.plant.shape.products ≤ length a.self.inventory = omega (arith, c.requires.1.inventory_long, n) in
    record {
      in_stock = sym (in_stock_all _ _ _ _ e) ∙ b.invariant.1;
      kept = sym (kept_all _ _ _ _ e room) ∙ (sym b.invariant.2 ∙ c.if-not-kept.false);
      inventory = b.invariant.0 ∙ inventory_all _ _ _ _ e;
      charge = b.invariant.3 ∙ charge_all _ _ _ _ e room;
      charge_most = omega (arith, b.invariant.4, n);
    }
