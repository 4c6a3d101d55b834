-- `plan_writing::RanWeek::from_product` meets its contract. Assumes nothing.
use native.Mathlib.Omega.{arith}
use mathlib.Core.Path.{◌≡◌, ap, ◌∙◌}
use Prim.Native.Nat.{suc, ◌-◌}
use Rattle.slot_file.specs.Slots.{order_of_slots}
use Rattle.slot_file.specs.Accepted.{slots_in_week}
use Rattle.plan_writing.specs.Line.{from_of}
use Rattle.plan_writing.proofs.WeekRows.{some_product, product_at_lem}
use Rattle.plan_writing.proofs.Files.{runs}
use Rattle.plan_writing.proofs.RanWeek.from_product.Goals as goal

pub returns-in-None : goal.returns-in-None
returns-in-None c = (rw (c.if-k-eq0.true, c.in-None.is), some_product (runs c.args.self) c.requires.2)

pub returns : goal.returns
returns c =
    let a = c.args in
    let e : suc (a.k - 1) ≡ a.k = omega (arith, c.if-k-eq0.false) in (
      product_at_lem (runs a.self) (a.k - 1) c.product.ensures.0 ∙ ap (from_of a.mounted (order_of_slots (slots_in_week a.self.row))) e,
      c.product.ensures.1,
    )
