-- Rows that are filled number by number. Assumes nothing.
use Prim.Native.Nat.{ℕ, ◌+◌, ◌*◌, ◌<◌}
use mathlib.Core.Path.{◌≡◌, refl, sym, ap, ◌∙◌}
use mathlib.Core.List.{List}
use native.Mathlib.Omega.{arith}
use native.Mathlib.Decide.{ℕ_discrete}
use lib.ListN.{length, get_or, set}
use lib.Seq.{get_or-set_same, get_or-set_other}
use Rattle.mathematics.specs.Below.{is}
use Rattle.mathematics.proofs.Below.{is_same, is_other}
use Rattle.plan_writing.specs.Bodies.{Shows}

-- one number more
pub filled : (row : List ℕ) (g : ℕ → ℕ) (k v : ℕ) → k < length row → v ≡ g k → Shows k g row → Shows (k + 1) g (set row k v)
filled row g k v l e h j m = go (ℕ_discrete j k)
  where
    go : Dec (j ≡ k) → get_or (set row k v) j 0 ≡ g j
    go (yes d) = rw d (get_or-set_same row k v 0 l ∙ e)
    go (no d) = get_or-set_other row k j v 0 d ∙ h j (omega arith)

-- v more in place p of a row of the numbers g
pub slot_added : (row : List ℕ) (g : ℕ → ℕ) (p v : ℕ) → p < length row → ((j : ℕ) → get_or row j 0 ≡ g j)
    → (j : ℕ) → get_or (set row p (get_or row p 0 + v)) j 0 ≡ g j + v * is p j
slot_added row g p v l h j = go (ℕ_discrete j p)
  where
    go : Dec (j ≡ p) → get_or (set row p (get_or row p 0 + v)) j 0 ≡ g j + v * is p j
    go (yes e) =
        let one : v * is p p ≡ v = ap (λ (x : ℕ). v * x) (is_same p p refl) ∙ omega arith in
        rw e (omega (arith, get_or-set_same row p (get_or row p 0 + v) 0 l, h p, one))
    go (no d) =
        let none : v * is p j ≡ 0 = ap (λ (x : ℕ). v * x) (is_other p j (λ e. d (sym e))) ∙ omega arith in
        omega (arith, get_or-set_other row p j (get_or row p 0 + v) 0 d, h j, none)
