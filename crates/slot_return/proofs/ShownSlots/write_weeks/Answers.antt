-- `slot_return::ShownSlots::write_weeks` meets its contract: the loop has stored the slots of the weeks before `week`. Assumes nothing.
use borrow.Author.Rules.{rules}
use native.Mathlib.Omega.{arith}
use native.Mathlib.Numerals.{add-one}
use mathlib.Core.Path.{◌≡◌, refl, sym, ap, ◌∙◌}
use Prim.Native.Nat.{ℕ, ◌*◌}
use Rattle.slot_file.specs.File.{slot_bytes, slot_bodies}
use Rattle.slot_return.specs.Bodies.{week_in}
use Rattle.slot_return.proofs.ShownFile.{weeks_room, weeks_length, join_stored}
use Rattle.slot_return.proofs.ShownSlots.write_weeks.Goals as goal

pub loop-week-preserved : goal.loop-week-preserved
loop-week-preserved c =
    let b = c.loop-week in
    let x = c.args.self in
    let room = weeks_room x b.week (omega arith) in (
      rw add-one (omega arith),
      search rules,
      join_stored (λ w. slot_bytes (week_in x w)) b.week (3 * b.first) c.args.out.now b.out _ b.invariant.2
          (weeks_length x b.week ∙ ap (λ (n : ℕ). 3 * n) (sym b.invariant.0)) (omega arith) refl c.write_week.ensures,
    )

pub returns : goal.returns
unfolding slot_bodies
returns c =
    let e : c.loop-week.week ≡ c.args.self.plan.shape.weeks = omega arith in
    rw e at c.loop-week.invariant.2
