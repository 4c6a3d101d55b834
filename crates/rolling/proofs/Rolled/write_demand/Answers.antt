-- `rolling::Rolled::write_demand` meets its contract. Assumes nothing.
use borrow.Author.Rules.{rules}
use native.Mathlib.Omega.{arith}
use mathlib.Core.Path.{◌≡◌, sym, ap, ◌∙◌}
use Prim.Native.Nat.{ℕ, ◌+◌, ◌*◌, ◌/◌, ◌%◌, ◌-◌, ◌≤◌, ◌<◌}
use lib.ListN.{length, length-take, length-drop}
use Rattle.numbers.specs.Number.{store}
use Rattle.sections.proofs.Tables.{cube_rows}
use Rattle.sections.proofs.Bodies.{row_room, sized_row_stored}
use Rattle.plant_file.specs.Accepted.{plant_in}
use Rattle.rolling.proofs.Rolled.write_demand.Goals as goal
use Rattle.rolling.proofs.Rolled.write_demand.Goals.{In-loop-pair}

module _ (c : In-loop-pair) where
  abbrev left : ℕ
  left = c.args.self.files.plant.shape.weeks - c.args.self.weeks

  below : c.loop-pair.pair < c.args.self.files.plant.shape.customers * c.args.self.files.plant.shape.products
  below = omega (arith, c.area-pair-end.ensures.0)

  size_is : 4 * (c.from.result - c.args.self.weeks) ≡ 4 * left
  size_is = ap (λ (x : ℕ). 4 * (x - c.args.self.weeks)) c.from.ensures

  -- the next row has room
  fits : 4 * (c.from.result - c.args.self.weeks) * c.loop-pair.pair + 4 * left ≤ length c.loop-pair.out
  fits = omega (arith, row_room 4 left size_is below c.requires, c.loop-pair.invariant.0)

pub slice_bounds-write_demand_row-count : goal.slice_bounds-write_demand_row-count
slice_bounds-write_demand_row-count c = omega (arith, fits (goal.at.slice_bounds-write_demand_row-count c).In-loop-pair)

pub slice_bounds-write_demand_row-start : goal.slice_bounds-write_demand_row-start
slice_bounds-write_demand_row-start c = omega (arith, fits (goal.at.slice_bounds-write_demand_row-start c).In-loop-pair)

pub write_demand_row-requires : goal.write_demand_row-requires
write_demand_row-requires c =
    let d = (goal.at.write_demand_row-requires c).In-loop-pair in
    (below d, simp (length-take, length-drop) (omega (arith, fits d)))

pub loop-pair-preserved : goal.loop-pair-preserved
loop-pair-preserved c =
    let d = (goal.at.loop-pair-preserved c).In-loop-pair in
    let b = c.loop-pair in
    let a = c.args in
    let p = plant_in a.self.files.plant in
    let wanted : ℕ → ℕ → ℕ = λ j w. p.demand (j / p.products) (j % p.products) (a.self.weeks + w) in (
      search rules,
      sized_row_stored 4 (left d) wanted a.out.now b.out _ b.pair (4 * (c.from.result - a.self.weeks)) (size_is d) b.invariant.1
          (omega (arith, fits d)) c.write_demand_row.ensures,
    )

pub returns : goal.returns
returns c =
    let r = c.args.self in
    let p = plant_in r.files.plant in
    let all : c.loop-pair.pair ≡ p.customers * p.products = omega (arith, c.area-pair-end.ensures.0) in
    rw all at c.loop-pair.invariant.1
    ∙ ap (store c.args.out.now 0) (sym (cube_rows 4 p.customers p.products (p.weeks - r.weeks) (λ c i w. p.demand c i (r.weeks + w))))
