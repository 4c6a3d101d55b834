-- `rules::Candidate::inventory_before` meets its contract. Assumes nothing.
use borrow.Author.Rules.{rules}
use native.Mathlib.Omega.{arith}
use Prim.Native.Nat.{◌≤◌}
use Rattle.rules.proofs.Weeks.{inventory_first, inventory_later}
use Rattle.rules.proofs.Candidate.inventory_before.Goals as goal

pub returns-then-week-eq0 : goal.returns-then-week-eq0
returns-then-week-eq0 c = rw (inventory_first _ _ _ _ c.if-week-eq0.true) (search rules)

pub returns : goal.returns
returns c =
    let h : 1 ≤ c.args.week = omega arith in
    rw (inventory_later _ _ _ _ h) (search rules)
