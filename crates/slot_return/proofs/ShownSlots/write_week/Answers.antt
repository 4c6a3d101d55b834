-- `slot_return::ShownSlots::write_week` meets its contract: the loop has stored the week's slots before `k`. Assumes nothing.
use borrow.Author.Rules.{rules}
use native.Mathlib.Omega.{arith}
use mathlib.Core.Path.{◌≡◌, ◌∙◌}
use Prim.Native.Nat.{◌*◌}
use Rattle.slot_return.specs.Bodies.{count_in}
use Rattle.slot_return.proofs.ShownFile.{slot_in, slot_bytes_lem, places_length, week_bytes, join_stored}
use Rattle.slot_return.proofs.ShownSlots.write_week.Goals as goal

pub loop-k-preserved : goal.loop-k-preserved
loop-k-preserved c =
    let b = c.loop-k in
    let x = c.args.self in
    let w = c.args.week in (
      search rules,
      join_stored (slot_in x w) b.k (3 * b.k) c.args.out.now b.out _ b.invariant.1 (places_length x w b.k) (omega arith)
          (slot_bytes_lem x.plan.shape x.plan.bytes.now w b.k _ _ c.product_at-product.ensures c.minutes-minutes.ensures.0) c.write_slot.ensures,
    )

pub returns : goal.returns
returns c =
    let x = c.args.self in
    let e : c.loop-k.k ≡ count_in x c.args.week = omega arith in
    c.loop-k.invariant.1 ∙ rw (e, week_bytes x c.args.week)
