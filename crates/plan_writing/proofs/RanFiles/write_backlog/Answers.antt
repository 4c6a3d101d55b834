-- `plan_writing::RanFiles::write_backlog` meets its contract: the loop has stored the rows of the pairs below `pair`. Assumes nothing.
use borrow.Author.Rules.{rules}
use native.Mathlib.Omega.{arith}
use mathlib.Core.Path.{◌≡◌, ap, ◌∙◌}
use Prim.Native.Nat.{ℕ, ◌+◌, ◌*◌, ◌/◌, ◌%◌, ◌≤◌, ◌<◌}
use lib.ListN.{length, length-take, length-drop}
use Rattle.mathematics.specs.Below.{join_below}
use Rattle.numbers.specs.Number.{encode, store}
use Rattle.sections.proofs.Bodies.{row_room, sized_row_stored}
use Rattle.plan_writing.specs.Bodies.{section_of, row_in}
use Rattle.plan_writing.specs.Files.{tables_in}
use Rattle.plan_writing.proofs.Bodies.{body_is}
use Rattle.plan_writing.proofs.RanFiles.write_backlog.Goals as goal
use Rattle.plan_writing.proofs.RanFiles.write_backlog.Goals.{In-loop-pair}

module _ (c : In-loop-pair) where
  below : c.loop-pair.pair < c.args.self.slots.shape.customers * c.args.self.slots.shape.products
  below = omega (arith, c.area-pair-end.ensures.0)

  size_is : 4 * c.from-size.result ≡ 4 * c.args.self.slots.shape.weeks
  size_is = ap (λ (x : ℕ). 4 * x) c.from-size.ensures

  -- the next row has room
  fits : 4 * c.from-size.result * c.loop-pair.pair + 4 * c.args.self.slots.shape.weeks ≤ length c.loop-pair.out
  fits = omega (arith, row_room 4 c.args.self.slots.shape.weeks size_is below c.requires, c.loop-pair.invariant.0)

pub write_backlog_row-requires : goal.write_backlog_row-requires
write_backlog_row-requires c =
    let d = (goal.at.write_backlog_row-requires c).In-loop-pair in
    (below d, simp (length-take, length-drop) (omega (arith, fits d)))

pub loop-pair-preserved : goal.loop-pair-preserved
loop-pair-preserved c =
    let d = (goal.at.loop-pair-preserved c).In-loop-pair in
    let b = c.loop-pair in
    let a = c.args in
    let f = a.self.slots.shape in
    let owed = (tables_in a.self).backlog in (
      search rules,
      sized_row_stored 4 f.weeks (λ q. owed (q / f.products) (q % f.products)) a.out.now b.out _ b.pair (4 * c.from-size.result) (size_is d)
          b.invariant.1 (omega (arith, fits d)) c.write_backlog_row.ensures,
    )

pub returns : goal.returns
unfolding section_of row_in
returns c =
    let a = c.args in
    let b = c.loop-pair in
    let f = a.self.slots.shape in
    let x = tables_in a.self in
    let all : b.pair ≡ f.customers * f.products = omega (arith, c.area-pair-end.ensures.0) in
    b.invariant.1
    ∙ ap (store a.out.now 0)
    (ap (λ (n : ℕ). join_below n (λ q. encode 4 f.weeks (x.backlog (q / f.products) (q % f.products)))) all ∙ body_is f x 10 (omega arith))
