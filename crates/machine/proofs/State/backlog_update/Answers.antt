-- `machine::State::backlog_update` meets its contract: the loop has tried, stored and added the pairs below `pair`. Assumes nothing.
use Prim.Native.Nat.{◌+◌, ◌*◌, ◌-◌, ◌/◌, ◌%◌, ◌<◌, ◌≤◌}
use mathlib.Core.Path.{◌≡◌, ◌∙◌}
use mathlib.Core.Bool.{false}
use borrow.Author.Rules.{rules}
use borrow.Author.Tests.{tests}
use native.Mathlib.Omega.{arith}
use native.Mathlib.Numerals.{add-one}
use lib.ListN.{get_or}
use Rattle.mathematics.proofs.Below.{all_fails}
use Rattle.sections.specs.Limits.{most_backlog}
use Rattle.plant_file.specs.Accepted.{plant_in}
use Rattle.machine.specs.Machine.{sales_due}
use Rattle.machine.specs.Input.{week_in}
use Rattle.machine.proofs.Plants.{few}
use Rattle.machine.proofs.PairTables.{due_at, backlog_at, due_flat, revenue_flat, backlog_new, charge_new}
use Rattle.machine.proofs.Stores.{cell_next, cell_stored}
use Rattle.machine.proofs.State.backlog_update.Goals as goal
use Rattle.machine.proofs.State.backlog_update.Goals.{After-pair_sales, In-loop-pair}

-- the pair is one of the plant's
known : (c : In-loop-pair) → c.loop-pair.pair < c.args.input.plant.shape.customers * c.args.input.plant.shape.products
known c = omega (arith, c.area-pair-end.ensures.0)

module _ (c : After-pair_sales) where
  -- what is sold of it, and what the pair is owed, which is small
  sold : let n = c.args.input.plant.shape.products in
      let pair = c.loop-pair.pair in
      c.pair_sales.result ≡ (week_in c.args.input c.args.week).sales (pair / n) (pair % n)
  sold = rw c.args.input.same at c.pair_sales.ensures.0

  owed : let n = c.args.input.plant.shape.products in
      let pair = c.loop-pair.pair in
      c.from.result + c.pair_demand.result
      ≡ get_or c.args.self.backlog pair 0 + (week_in c.args.input c.args.week).demand (pair / n) (pair % n)
  owed = rw (c.from.ensures, cell_next _ _ _ _ c.loop-pair.invariant.0, c.pair_demand.ensures.0) (grind arith)

  owed_most : c.from.result + c.pair_demand.result ≤ most_backlog
  owed_most =
      let known : c.loop-pair.pair < c.args.input.plant.shape.customers * c.args.input.plant.shape.products =
      omega (arith, c.area-pair-end.ensures.0) in
      let same : get_or c.loop-pair.backlog c.loop-pair.pair 0 ≡ get_or c.args.self.backlog c.loop-pair.pair 0 =
      cell_next _ _ _ _ c.loop-pair.invariant.0 in
      omega (arith, c.from.ensures, c.requires.1.backlog_most _ known, c.pair_demand.ensures.1)

  left : c.from.result + c.pair_demand.result - c.pair_sales.result
      ≡ backlog_at c.args.input.plant.shape.products (week_in c.args.input c.args.week) c.loop-pair.pair (get_or c.args.self.backlog c.loop-pair.pair 0)
  left = rw (owed, sold)

pub bounds-backlog-pair : goal.bounds-backlog-pair
bounds-backlog-pair c = omega (arith, (few c.args.input.plant).pairs, c.area-pair-end.ensures.0)

pub bounds-backlog-pair-in-loop-pair : goal.bounds-backlog-pair-in-loop-pair
bounds-backlog-pair-in-loop-pair c = omega (arith, (few c.args.input.plant).pairs, c.area-pair-end.ensures.0)

pub overflow_cast-backlog : goal.overflow_cast-backlog
overflow_cast-backlog c = omega (arith, owed_most (goal.at.overflow_cast-backlog c).After-pair_sales)

pub overflow_add-revenue : goal.overflow_add-revenue
overflow_add-revenue c =
    let place = known (goal.at.overflow_add-revenue c).In-loop-pair in
    omega (arith, c.charge-bought.ensures.1, c.pair_sales.ensures.1, c.loop-pair.invariant.3, place, (few c.args.input.plant).pairs)

pub overflow_add-cost : goal.overflow_add-cost
overflow_add-cost c =
    let place = known (goal.at.overflow_add-cost c).In-loop-pair in
    let most = owed_most (goal.at.overflow_add-cost c).After-pair_sales in
    omega (arith, c.charge-late.ensures.1, most, c.loop-pair.invariant.5, place, (few c.args.input.plant).pairs)

pub loop-pair-preserved : goal.loop-pair-preserved
loop-pair-preserved c =
    let b = c.loop-pair in
    let at = (goal.at.loop-pair-preserved c).After-pair_sales in (
      cell_stored _ _ _ _ b.invariant.0 _ (c.less-left.ensures ∙ left at),
      rw (add-one, b.invariant.1, ← (sold at), ← (owed at)) (search (rules, tests)),
      rw (add-one, ← (sold at), ← c.pair_price.ensures.0) (omega (arith, b.invariant.2, c.charge-bought.ensures.0)),
      omega (arith, b.invariant.3, c.charge-bought.ensures.1, c.pair_sales.ensures.1),
      rw (add-one, ← (left at), ← c.less-left.ensures, ← c.pair_backlog_cost.ensures.0) (omega (arith, b.invariant.4, c.charge-late.ensures.0)),
      omega (arith, b.invariant.5, c.charge-late.ensures.1, owed_most at),
    )

-- sales that exceed what one pair is owed
pub returns-then-lt : goal.returns-then-lt
returns-then-lt c =
    let a = c.args in
    let P = plant_in a.input.plant in
    let v = week_in a.input a.week in
    let at = (goal.at.returns-then-lt c).After-pair_sales in
    let late : due_at P.products v a.self.backlog c.loop-pair.pair ≡ false = rw (← (sold at), ← (owed at)) (search (rules, tests)) in
    let e : sales_due P v a.self ≡ false =
    due_flat P v a.self ∙ all_fails _ _ c.loop-pair.pair (known (goal.at.returns-then-lt c).In-loop-pair) late in
    rw e

pub returns : goal.returns
returns c =
    let a = c.args in
    let P = plant_in a.input.plant in
    let v = week_in a.input a.week in
    let b = c.loop-pair in
    let n = (few a.input.plant).pairs in
    let e : b.pair ≡ a.input.plant.shape.customers * a.input.plant.shape.products = omega (arith, c.area-pair-end.ensures.0) in
    record {
      due = rw (due_flat P v a.self, ← e) b.invariant.1;
      backlog = rw (backlog_new P v a.self, ← e) b.invariant.0;
      revenue = rw (revenue_flat P v a.self, ← e) b.invariant.2;
      charge = rw (charge_new P v a.self (omega (arith, c.requires.1.backlog_long, n)), ← e) b.invariant.4;
      revenue_most = omega (arith, b.invariant.3, n);
      charge_most = omega (arith, b.invariant.5, n);
    }
