-- `slot_return::ShownSlots::write_counts` meets its contract: the loop has stored the counts of the weeks before `week`. Assumes nothing.
use borrow.Author.Rules.{rules}
use native.Mathlib.Omega.{arith}
use mathlib.Core.Path.{◌≡◌, ap, ◌∙◌}
use Prim.Native.Nat.{ℕ}
use Rattle.numbers.specs.Number.{digits, encode, store}
use Rattle.numbers.proofs.Number.{encode_length}
use Rattle.numbers.proofs.Store.{store_join}
use Rattle.slot_return.specs.Bodies.{count_in}
use Rattle.slot_return.proofs.ShownFile.{counts_body}
use Rattle.slot_return.proofs.ShownSlots.write_counts.Goals as goal

pub loop-week-preserved : goal.loop-week-preserved
loop-week-preserved c =
    let b = c.loop-week in
    let n = count_in c.args.self in (
      search rules,
      c.write.ensures
          ∙ ((λ u. store (b.invariant.1 u) b.week (digits 1 (c.week_count-count.ensures.0 u)))
          ∙ store_join b.week (λ w. digits 1 (n w)) c.args.out.now b.week (omega (arith, encode_length 1 b.week n))),
    )

pub returns : goal.returns
returns c =
    let x = c.args.self in
    let e : c.loop-week.week ≡ x.plan.shape.weeks = omega arith in
    c.loop-week.invariant.1 ∙ ap (store c.args.out.now 0) (ap (λ (n : ℕ). encode 1 n (count_in x)) e ∙ counts_body x)
