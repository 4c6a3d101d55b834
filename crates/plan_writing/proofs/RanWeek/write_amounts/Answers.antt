-- `plan_writing::RanWeek::write_amounts` meets its contract: the loop has stored the amounts of the slots below `k`. Assumes nothing.
use borrow.Author.Rules.{rules}
use native.Mathlib.Omega.{arith}
use mathlib.Core.Path.{refl, ◌∙◌}
use Prim.Native.Nat.{ℕ, ◌*◌}
use Rattle.plant_file.specs.Accepted.{plant_in}
use Rattle.slot_file.specs.Accepted.{slots_in_week}
use Rattle.plan_writing.specs.Line.{factor_in}
use Rattle.plan_writing.proofs.WeekRows.{row_size, order_is}
use Rattle.plan_writing.proofs.Amounts.{none_stored, one_stored, all_stored}
use Rattle.plan_writing.proofs.Files.{runs}
use Rattle.plan_writing.proofs.RanWeek.write_amounts.Goals as goal
use Rattle.plan_writing.proofs.RanWeek.write_amounts.Goals.{Start}

abbrev factor : Start → ℕ → ℕ
factor s = factor_in (plant_in s.args.self.files.plant).line.rate s.args.place

pub loop-k-init : goal.loop-k-init
loop-k-init c =
    let s = (goal.at.loop-k-init c).Start in
    let a = c.args in
    (refl, none_stored (factor s) (slots_in_week a.self.row) a.width a.self.row.file.shape.products a.out.now c.requires.1)

pub loop-k-preserved : goal.loop-k-preserved
loop-k-preserved c =
    let s = (goal.at.loop-k-preserved c).Start in
    let a = c.args in
    let b = c.loop-k in
    let product_is = c.product-product.ensures.0 in
    let amount_is = c.amount_of-amount.ensures ∙ (λ u. factor s (product_is u) * c.minutes.ensures.0 u) in (
      search rules,
      c.write.ensures
          ∙ one_stored (factor s) (slots_in_week a.self.row) a.width a.self.row.file.shape.products a.out.now
          (order_is (runs a.self)) b.k _ _ b.out (omega (arith, row_size (runs a.self))) product_is amount_is b.invariant.1,
    )

pub returns : goal.returns
returns c =
    let s = (goal.at.returns c).Start in
    let a = c.args in
    let b = c.loop-k in
    b.invariant.1
    ∙ all_stored (factor s) (slots_in_week a.self.row) a.width a.self.row.file.shape.products a.out.now b.k
    (omega (arith, row_size (runs a.self)))
