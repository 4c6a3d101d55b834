-- `plan_writing::RanWeek::write_marks` meets its contract: the loop has stored the marks of the slots below `k`. Assumes nothing.
use borrow.Author.Rules.{rules}
use native.Mathlib.Omega.{arith}
use native.Mathlib.Numerals.{add-one}
use mathlib.Core.Path.{◌≡◌, refl, sym, ap, ◌∙◌}
use mathlib.Core.List.{List}
use Prim.Native.Nat.{ℕ, ◌≤◌}
use lib.ListN.{length}
use Rattle.slot_file.specs.Slots.{order_of_slots}
use Rattle.slot_file.specs.Accepted.{slots_in_week}
use Rattle.plan_writing.specs.Line.{marked_from, marked_to}
use Rattle.plan_writing.proofs.WeekRows.{order_size, order_is, product_at_lem}
use Rattle.plan_writing.proofs.Marks.{rise_is, marked_within, cell_below, none_stored, shut_stored, one_stored, all_stored}
use Rattle.plan_writing.proofs.Files.{runs}
use Rattle.plan_writing.proofs.RanWeek.write_marks.Goals as goal
use Rattle.plan_writing.proofs.RanWeek.write_marks.Goals.{After-marked_to-end}

-- the slots that store
module _ (c : After-marked_to-end) where
  abbrev ps : List ℕ
  ps = order_of_slots (slots_in_week c.args.self.row)

  size : length ps ≡ c.args.self.row.count
  size = order_size (runs c.args.self)

  some : 1 ≤ c.args.self.row.count
  some = omega (arith, c.if-self-eq0.false)

  start_is : c.marked_from-start.result ≡ marked_from (length ps) c.args.place
  start_is = c.marked_from-start.ensures ∙ ap (λ (n : ℕ). marked_from n c.args.place) (sym size)

  end_is : c.marked_to-end.result ≡ marked_to c.args.mounted (length ps) c.args.place
  end_is = c.marked_to-end.ensures ∙ ap (λ (n : ℕ). marked_to c.args.mounted n c.args.place) (sym size)

  within : (c.marked_from-start.result ≤ c.marked_to-end.result) × (c.marked_to-end.result ≤ c.args.self.row.count)
  within =
      let w = marked_within c.args.mounted (length ps) c.args.place c.requires.1 (omega (arith, size, some)) in
      (omega (arith, start_is, end_is, w.0), omega (arith, end_is, w.1, size))

-- a shut week
pub returns-then-self-eq0 : goal.returns-then-self-eq0
returns-then-self-eq0 c =
    let a = c.args in
    shut_stored a.self.row.file.shape a.place c.requires.1 a.mounted (order_of_slots (slots_in_week a.self.row)) a.out.now c.requires.2
    (order_size (runs c.args.self) ∙ c.if-self-eq0.true)

pub from_product-from-requires : goal.from_product-from-requires
from_product-from-requires c =
    let w = within (goal.at.from_product-from-requires c).After-marked_to-end in
    (c.requires.0, omega (arith, w.0, w.1), omega (arith, c.if-self-eq0.false))

pub loop-k-init : goal.loop-k-init
loop-k-init c =
    let a = c.args in
    let from = c.from_product-from.ensures in (
      refl,
      from.1,
      from.0,
      none_stored a.self.row.file.shape a.place c.requires.1 a.mounted (order_of_slots (slots_in_week a.self.row)) a.out.now
          c.stride_of-stride.result c.from-rise.result c.marked_from-start.result c.requires.2,
    )

pub product-product-requires : goal.product-product-requires
product-product-requires c =
    let w = within (goal.at.product-product-requires c).After-marked_to-end in ((runs c.args.self).week, omega (arith, w.1))

pub write-requires : goal.write-requires
write-requires c =
    let a = c.args in
    let cell = cell_below a.self.row.file.shape a.place c.loop-k.from c.product-product.result c.requires.1 c.stride_of-stride.ensures.0
    c.loop-k.invariant.1 c.product-product.ensures.1 in
    omega (arith, cell, c.requires.2.room, c.loop-k.invariant.0)

pub loop-k-preserved : goal.loop-k-preserved
loop-k-preserved c =
    let a = c.args in
    let b = c.loop-k in
    let d = (goal.at.loop-k-preserved c).After-marked_to-end in
    let product_is = product_at_lem (runs c.args.self) b.k c.product-product.ensures.0 in (
      search rules,
      c.product-product.ensures.1,
      rw add-one product_is,
      c.write.ensures
          ∙ one_stored a.self.row.file.shape a.place c.requires.1 a.mounted (ps d) a.out.now _ _ _ b.k b.from c.product-product.result
          b.out c.stride_of-stride.ensures.0 (order_is (runs c.args.self)) (omega arith)
          (omega (arith, (within d).1, size d)) b.invariant.1 b.invariant.2 product_is b.invariant.3,
    )

pub returns : goal.returns
returns c =
    let a = c.args in
    let b = c.loop-k in
    let d = (goal.at.returns c).After-marked_to-end in
    let all : b.k ≡ c.marked_to-end.result = omega (arith, (within d).0) in
    b.invariant.3
    ∙ all_stored a.self.row.file.shape a.place c.requires.1 a.mounted (ps d) a.out.now c.stride_of-stride.ensures.0
    (c.from-rise.ensures ∙ rise_is a.place 5) (start_is d) (all ∙ end_is d) (order_is (runs c.args.self)).below
    (omega (arith, some d, size d))
