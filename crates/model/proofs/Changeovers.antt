-- The minutes and changeovers of a week's slots, by the slots and by the tables. Assumes nothing.
use Prim.Native.Nat.{ℕ, zero, suc, ◌+◌, ◌*◌, ◌<◌, ◌≤◌}
use Prim.{tt}
use mathlib.Core.Path.{◌≡◌, refl, sym, ap, ◌∙◌}
use mathlib.Core.Bool.{Bool, true, false, cond}
use mathlib.Core.List.{List, [], ◌∷◌}
use native.Mathlib.Omega.{arith}
use native.Mathlib.Decide.{ℕ_discrete}
use lib.Dec.{eqb}
use borrow.Author.Tests.{eq-eqb, ne_eqb}
use Rattle.mathematics.specs.Below.{sum_below, is}
use Rattle.mathematics.proofs.Below.{sum_ext, sum_zero, sum_add, sum_only, sum_is, is_same, is_other, is_le}
use Rattle.slot_file.specs.Slots.{Slot, order_of_slots}
use Rattle.std.specs.Prelude.{None, Some}
use Rattle.costs.specs.Changeover.{changeover_to}
use Rattle.costs.specs.Mounted.{Mounted, mounted_below}
use Rattle.costs.specs.Changeover.{changeover_between}
use Rattle.rules.specs.Rules.{changeovers_under}
use Rattle.mathematics.specs.Order.{ProductsBelow, assigned_in, first_in, changeover_in}
use Rattle.costs.specs.Mounted.{is_mounted}
use Rattle.model.specs.RunTables.{mounted_of, last_of, minutes_of}
use Rattle.model.proofs.Grids.{grid_ext, grid_add, grid_zero}

-- ---- what is mounted
-- at most one product
pub mounted_bit : (m : Mounted) (i : ℕ) → is_mounted m i ≤ 1
mounted_bit None i = omega arith
mounted_bit (Some p) i = is_le p i

pub mounted_one : (N : ℕ) (m : Mounted) → mounted_below N m → sum_below N (is_mounted m) ≤ 1
mounted_one N None h = omega (arith, sum_zero N (λ i. 0) (λ i l. refl))
mounted_one N (Some p) h = omega (arith, sum_is N p h)

-- it is read off its marks
pub mounted_of_lem : (N : ℕ) (m : Mounted) (mark : ℕ → ℕ) → mounted_below N m → ((i : ℕ) → i < N → mark i ≡ is_mounted m i) → mounted_of N mark ≡ m
mounted_of_lem zero None mark h e = refl
mounted_of_lem zero (Some p) mark h e = absurd (omega arith)
mounted_of_lem (suc n) None mark h e =
    rw (ne_eqb (mark n) 1 (λ d. absurd (omega (arith, d, e n (omega arith))))) (mounted_of_lem n None mark h (λ i l. e i (omega arith)))
mounted_of_lem (suc n) (Some p) mark h e = elim (ℕ_discrete p n) [
  | yes d ↦ rw (eq-eqb (mark n) 1 (e n (omega arith) ∙ is_same p n d)) (ap Some (sym d))
  | no d ↦ rw (ne_eqb (mark n) 1 (λ q. absurd (omega (arith, q, e n (omega arith), is_other p n d))))
      (mounted_of_lem n (Some p) mark (omega arith) (λ i l. e i (omega arith)))
]

mounted_more : (N : ℕ) (m : Mounted) → mounted_below N m → mounted_below (suc N) m
mounted_more N None h = h
mounted_more N (Some p) h = omega arith

pub mounted_of_below : (N : ℕ) (mark : ℕ → ℕ) → mounted_below N (mounted_of N mark)
mounted_of_below zero mark = tt
mounted_of_below (suc n) mark = go (eqb (mark n) 1) (mounted_of_below n mark)
  where
    go : (t : Bool) → mounted_below n (mounted_of n mark) → mounted_below (suc n) (cond t (Some n) (mounted_of n mark))
    go true h = omega arith
    go false h = mounted_more n (mounted_of n mark) h

pub last_below : (N : ℕ) (m : Mounted) (ps : List ℕ) → mounted_below N m → ProductsBelow N ps → mounted_below N (last_of m ps)
last_below N m [] h k = h
last_below N m (p ∷ ps) h k = last_below N (Some p) ps (k 0 (omega arith)) (λ u l. k (suc u) (omega arith))

-- ---- `is`: under it the one product stands for the other
pub is_move : (f : ℕ → ℕ) (p i : ℕ) → is p i * f p ≡ is p i * f i
is_move f p i = elim (ℕ_discrete p i) [ yes e ↦ rw e | no d ↦ rw (is_other p i d) (omega arith) ]

is_part : (p i m : ℕ) → is p i * m ≤ m
is_part p i m = elim (ℕ_discrete p i) [ yes e ↦ rw (is_same p i e) (omega arith) | no d ↦ rw (is_other p i d) (omega arith) ]

sum_is_of : (N : ℕ) (f : ℕ → ℕ) (p : ℕ) → p < N → sum_below N (λ i. is p i * f i) ≡ f p
sum_is_of N f p l =
    sum_only N (λ i. is p i * f i) p l (λ i m d. rw (is_other p i (λ e. d (sym e))) (omega arith)) ∙ rw (is_same p p refl) (omega arith)

-- ---- minutes
abbrev pub total_minutes : List Slot → ℕ
total_minutes [] = 0
total_minutes (x ∷ xs) = x.minutes + total_minutes xs

-- a product that does not run has no minutes
pub no_minutes : (xs : List Slot) (i : ℕ) → assigned_in (order_of_slots xs) i ≡ 0 → minutes_of xs i ≡ 0
no_minutes [] i h = refl
no_minutes (x ∷ xs) i h =
    let a : is x.product i ≡ 0 = omega arith in
    rw a (omega (arith, no_minutes xs i (omega arith)))

pub minutes_part : (xs : List Slot) (i : ℕ) → minutes_of xs i ≤ total_minutes xs
minutes_part [] i = omega arith
minutes_part (x ∷ xs) i = omega (arith, minutes_part xs i, is_part x.product i x.minutes)

pub sum_minutes : (N : ℕ) (xs : List Slot) → ProductsBelow N (order_of_slots xs) → sum_below N (minutes_of xs) ≡ total_minutes xs
sum_minutes N [] h = sum_zero N (λ i. 0) (λ i l. refl)
sum_minutes N (x ∷ xs) h =
    sum_add N (λ i. is x.product i * x.minutes) (minutes_of xs)
    ∙ omega (arith, sum_is_of N (λ i. x.minutes) x.product (h 0 (omega arith)), sum_minutes N xs (λ k l. h (suc k) (omega arith)))

-- ---- changeovers
-- what the changeovers of these products take, by a table, where m is mounted before the first
abbrev pub total_changeover : (ℕ → ℕ → ℕ) → Mounted → List ℕ → ℕ
total_changeover table m [] = 0
total_changeover table m (p ∷ ps) = changeover_to table m p + total_changeover table (Some p) ps

module _ (N : ℕ) (table : ℕ → ℕ → ℕ) where
  -- under no marks, and under marks of two kinds
  pub under_zero : (z : ℕ → ℕ → ℕ) → ((i j : ℕ) → i < N → j < N → z i j ≡ 0) → changeovers_under N table z ≡ 0
  unfolding changeovers_under
  under_zero z h = grid_zero N N (λ i j. z i j * changeover_between table i j) (λ i j a b. rw (h i j a b) (omega arith))

  pub under_add : (a b : ℕ → ℕ → ℕ) → changeovers_under N table (λ i j. a i j + b i j) ≡ changeovers_under N table a + changeovers_under N table b
  unfolding changeovers_under
  under_add a b =
      let t = changeover_between table in
      grid_ext N N (λ i j. (a i j + b i j) * t i j) (λ i j. a i j * t i j + b i j * t i j) (λ i j _ _. omega arith)
      ∙ grid_add N N (λ i j. a i j * t i j) (λ i j. b i j * t i j)

  pub one_changeover : (m : Mounted) (p : ℕ) → mounted_below N m → p < N → changeovers_under N table (λ i j. is_mounted m i * is p j) ≡ changeover_to table m p
  unfolding changeovers_under
  one_changeover None p h l = under_zero (λ i j. 0 * is p j) (λ i j a b. omega arith)
  one_changeover (Some q) p h l =
      let t = changeover_between table in
      sum_ext N (λ i. sum_below N (λ j. is q i * is p j * t i j)) (λ i. is q i * t i p)
      (λ i a. sum_ext N (λ j. is q i * is p j * t i j) (λ j. is p j * (is q i * t i j)) (λ j b. omega arith)
      ∙ sum_is_of N (λ j. is q i * t i j) p l)
      ∙ sum_is_of N (λ i. t i p) q h

  -- from what is mounted to the first product, and from each to the next
  pub sum_changeovers : (m : Mounted) (ps : List ℕ) → mounted_below N m → ProductsBelow N ps
      → changeovers_under N table (changeover_in ps) + changeovers_under N table (λ i j. is_mounted m i * first_in ps j) ≡ total_changeover table m ps
  sum_changeovers m [] h k = omega (arith, under_zero (λ i j. 0) (λ i j a b. refl), under_zero (λ i j. is_mounted m i * 0) (λ i j a b. omega arith))
  sum_changeovers m (p ∷ ps) h k =
      let l : p < N = k 0 (omega arith) in
      omega (
        arith,
        under_add (λ i j. is p i * first_in ps j) (changeover_in ps),
        one_changeover m p h l,
        sum_changeovers (Some p) ps l (λ u v. k (suc u) (omega arith)),
      )
