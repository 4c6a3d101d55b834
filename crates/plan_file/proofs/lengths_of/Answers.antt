-- `plan_file::lengths_of` meets its contract: the loop has stored the lengths of the bodies below `place`. Assumes nothing.
use Prim.Native.Nat.{ℕ, zero, suc, ◌<◌}
use mathlib.Core.Path.{◌≡◌, refl, ap, ◌∙◌}
use mathlib.Core.List.{List, [], ◌∷◌, ◌++◌, map}
use native.Mathlib.Omega.{arith}
use native.Mathlib.Numerals.{add-one}
use lib.ListN.{get_or, length-set}
use lib.Seq.{take-suc, take-suc-set}
use Rattle.sections.specs.Layout.{layout, length_of}
use Rattle.sections.specs.declared.Layout.{Layout}
use Rattle.plan_file.specs.Form.{plan_layout, plan_lengths}
use Rattle.plan_file.proofs.lengths_of.Goals as goal

length_at : (ls : List Layout) (i : ℕ) → length_of (get_or ls i (layout 0 0 0)) ≡ get_or (map length_of ls) i 0
length_at [] i = refl
length_at (x ∷ xs) zero = refl
length_at (x ∷ xs) (suc i) = length_at xs i

pub loop-place-preserved : goal.loop-place-preserved
loop-place-preserved c =
    let turn = c.loop-place in
    let f = c.args.f in
    let here : turn.place < 12 = omega arith in
    let size = ap length_of c.layout-x.ensures.0 ∙ length_at (plan_layout f) turn.place in (
      rw (add-one, take-suc-set turn.lengths turn.place _ (omega (arith, turn.invariant.1)), take-suc (plan_lengths f) turn.place 0 (omega arith))
          (λ u. turn.invariant.0 u ++ (size u ∷ [])),
      rw length-set turn.invariant.1,
    )
