-- `plan_writing::write_inventory_row` meets its contract: the loop has stored the products below `i`. Assumes nothing.
use borrow.Author.Rules.{rules}
use native.Mathlib.Omega.{arith}
use mathlib.Core.Path.{◌≡◌, ◌∙◌}
use Prim.Native.Nat.{ℕ, ◌*◌, ◌-◌}
use lib.ListN.{get_or, length-set}
use lib.Seq.{get_or-set_other}
use Rattle.numbers.specs.Number.{digits, store}
use Rattle.numbers.proofs.Number.{store_more}
use Rattle.plan_writing.specs.Bodies.{sold_in}
use Rattle.plan_writing.proofs.Rows.{filled}
use Rattle.plan_writing.proofs.write_inventory_row.Goals as goal

pub loop-i-preserved : goal.loop-i-preserved
loop-i-preserved c =
    let b = c.loop-i in
    let a = c.args in
    let sold : ℕ → ℕ = sold_in a.slots.shape a.slots.bytes.now a.week in
    let left : ℕ → ℕ = λ j. get_or a.row.now j 0 - sold j in
    -- the number of product i is still the first
    let left_is : get_or b.row b.i 0 - c.sold.result ≡ left b.i = λ u. b.invariant.4 b.i (omega arith) u - c.sold.ensures.0 u in (
      search rules,
      rw length-set b.invariant.1,
      c.write.ensures ∙ ((λ u. store (b.invariant.2 u) (4 * b.i) (digits 4 (left_is u))) ∙ store_more 4 b.i left a.out.now),
      filled b.row left b.i _ (omega (arith, c.requires.1, b.invariant.1)) left_is b.invariant.3,
      λ j l. get_or-set_other b.row b.i j _ 0 (λ e. absurd (omega arith)) ∙ b.invariant.4 j (omega arith),
    )
