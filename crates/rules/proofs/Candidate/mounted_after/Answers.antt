-- `rules::Candidate::mounted_after` meets its contract. Assumes nothing.
use borrow.Author.Rules.{rules}
use native.Mathlib.Omega.{arith}
use Prim.Native.Nat.{◌≤◌}
use Rattle.rules.proofs.Weeks.{mounted_first, mounted_later}
use Rattle.rules.proofs.Candidate.mounted_after.Goals as goal

pub returns-then-weeks-eq0 : goal.returns-then-weeks-eq0
returns-then-weeks-eq0 c =
    let m = c.is_mounted.ensures in
    (rw (mounted_first _ _ _ _ c.if-weeks-eq0.true, ← c.opening_mounted.ensures.0) m.0, m.1)

pub returns : goal.returns
returns c =
    let h : 1 ≤ c.args.weeks = omega arith in
    rw (mounted_later _ _ _ _ h) (search rules)
