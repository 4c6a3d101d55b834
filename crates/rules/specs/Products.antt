-- The rules at one product of a week. Assumes nothing.
use Rattle.std.specs.Prelude.{ℕ, ◌+◌, ◌*◌, Bool, ◌&&◌, cond, eqb, leb}
use Rattle.mathematics.specs.Below.{implies, within}
use Rattle.plan_file.specs.Plan.{LinePlan}

-- 32: the diagonal of Z, and its sums into a product and out of it
unfoldable pub sequence_at : (into out : ℕ) → LinePlan → (w i : ℕ) → Bool
sequence_at into out x w i =
    eqb (x.changeover w i i) 0 && eqb (into + x.first w i) (x.assigned w i) && eqb (out + x.last w i) (x.assigned w i)

-- 33: the sums of ZF into a product and out of it, with whether it is mounted before the week, where so many products are mounted before the
-- week and so many come first in it
unfoldable pub passage_at : (into out before mounted firsts : ℕ) → LinePlan → (w i : ℕ) → Bool
passage_at into out before mounted firsts x w i = eqb into (x.first w i * mounted) && eqb out (before * firsts)

-- 34: O of a product, in a week of this many
unfoldable pub position_at : ℕ → LinePlan → (w i : ℕ) → Bool
position_at made x w i = cond (eqb (x.assigned w i) 0) (eqb (x.position w i) 0) (within 1 made (x.position w i))

-- 34: O of two products
abbrev pub follows_at : LinePlan → (w i j : ℕ) → Bool
follows_at x w i j = implies (eqb (x.changeover w i j) 1) (leb (x.position w i + 1) (x.position w j))
