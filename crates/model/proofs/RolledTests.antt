-- The tests of rolling on (request 2026-03), by their numbers, and what a plan's tables have after the first weeks. Assumes nothing.
use Prim.Native.Nat.{ℕ, zero, suc, ◌-◌, ◌≤◌, ◌<◌}
use mathlib.Core.Path.{◌≡◌, refl}
use mathlib.Core.Logic.{◌⊎◌, inl, inr}
use mathlib.Core.Bool.{Bool, true, false}
use native.Mathlib.Omega.{arith}
use lib.Dec.{leb, ltb}
use borrow.Author.Tests.{leb-true, le-leb, lt-leb, ltb-true, lt-ltb, le-ltb}
use Rattle.mathematics.specs.Below.{all_below}
use Rattle.mathematics.proofs.Below.{and_both, both_and, and_false, all_each, each_all, all_fails}
use Rattle.sections.specs.Limits.{most_opening_backlog}
use Rattle.plant_file.specs.Plant.{Plant}
use Rattle.plan_file.specs.Plan.{Plan}
use Rattle.rules.specs.Rules.{backlog_before, inventory_before}
use Rattle.model.specs.Rolled.{weeks_left, backlog_carried}

-- ---- 61
pub left_is : (weeks k : ℕ) → weeks_left weeks k ≡ true → (1 ≤ k) × (k < weeks)
unfolding weeks_left
left_is weeks k h = let r = and_both (leb 1 k) (ltb k weeks) h in (leb-true 1 k r.0, ltb-true k weeks r.1)

pub is_left : (weeks k : ℕ) → 1 ≤ k → k < weeks → weeks_left weeks k ≡ true
unfolding weeks_left
is_left weeks k a b = both_and (leb 1 k) (ltb k weeks) (le-leb 1 k a) (lt-ltb k weeks b)

pub none_left : (weeks k : ℕ) → (k ≡ 0) ⊎ (weeks ≤ k) → weeks_left weeks k ≡ false
unfolding weeks_left
none_left weeks k (inl h) = rw (lt-leb 1 k (omega arith)) refl
none_left weeks k (inr h) = rw (le-ltb k weeks h) (and_false (leb 1 k))

-- ---- 62
module _ (P : Plant) (x : Plan) (k : ℕ) where
  -- the backlogs of a customer
  abbrev row : ℕ → Bool
  row c = all_below P.products (λ i. leb (backlog_before P x k c i) most_opening_backlog)

  pub carried_each : backlog_carried P x k ≡ true → (c i : ℕ) → c < P.customers → i < P.products → backlog_before P x k c i ≤ most_opening_backlog
  unfolding backlog_carried
  carried_each h c i j l =
      leb-true _ _ (all_each P.products (λ i. leb (backlog_before P x k c i) most_opening_backlog) (all_each P.customers row h c j) i l)

  pub each_carried : ((c i : ℕ) → c < P.customers → i < P.products → backlog_before P x k c i ≤ most_opening_backlog) → backlog_carried P x k ≡ true
  unfolding backlog_carried
  each_carried h = each_all P.customers row (λ c j. each_all P.products _ (λ i l. le-leb _ _ (h c i j l)))

  pub not_carried : (c i : ℕ) → c < P.customers → i < P.products → most_opening_backlog < backlog_before P x k c i → backlog_carried P x k ≡ false
  unfolding backlog_carried
  not_carried c i j l h =
      all_fails P.customers row c j
      (all_fails P.products (λ i. leb (backlog_before P x k c i) most_opening_backlog) i l (lt-leb (backlog_before P x k c i) most_opening_backlog h))

-- after the first k weeks, some of which have run, stand the numbers of the last of them
pub backlog_after_lem : (P : Plant) (x : Plan) (k : ℕ) → 1 ≤ k → backlog_before P x k ≡ (λ c i. x.backlog c i (k - 1))
unfolding backlog_before
backlog_after_lem P x zero l = absurd (omega arith)
backlog_after_lem P x (suc k) l = let e : k ≡ suc k - 1 = omega arith in λ u c i. x.backlog c i (e u)

pub inventory_after_lem : (P : Plant) (x : Plan) (k : ℕ) → 1 ≤ k → inventory_before P x k ≡ x.inventory (k - 1)
unfolding inventory_before
inventory_after_lem P x zero l = absurd (omega arith)
inventory_after_lem P x (suc k) l = let e : k ≡ suc k - 1 = omega arith in λ u. x.inventory (e u)
