-- Laws of sums and tests over the numbers below a bound. Assumes nothing.
use Prim.Native.Nat.{ℕ, zero, suc, ◌+◌, ◌*◌, ◌<◌, ◌≤◌}
use mathlib.Core.Path.{◌≡◌, refl, sym, ap, ◌∙◌}
use mathlib.Core.Logic.{◌≢◌}
use mathlib.Core.Bool.{Bool, true, false, ◌&&◌, cond, true≢false}
use native.Mathlib.Omega.{arith}
use native.Mathlib.Decide.{ℕ_discrete}
use lib.Dec.{leb}
use borrow.Author.Tests.{eq-eqb, ne_eqb, leb-true, le-leb}
use Rattle.mathematics.specs.Below.{sum_below, all_below, implies, within, is, first_below}

-- ---- sums
pub sum_ext : (n : ℕ) (f g : ℕ → ℕ) → ((i : ℕ) → i < n → f i ≡ g i) → sum_below n f ≡ sum_below n g
sum_ext zero f g h = refl
sum_ext (suc n) f g h = omega (arith, sum_ext n f g (λ i l. h i (omega arith)), h n (omega arith))

pub sum_zero : (n : ℕ) (f : ℕ → ℕ) → ((i : ℕ) → i < n → f i ≡ 0) → sum_below n f ≡ 0
sum_zero zero f h = refl
sum_zero (suc n) f h = omega (arith, sum_zero n f (λ i l. h i (omega arith)), h n (omega arith))

pub sum_mono : (n : ℕ) (f g : ℕ → ℕ) → ((i : ℕ) → i < n → f i ≤ g i) → sum_below n f ≤ sum_below n g
sum_mono zero f g h = omega arith
sum_mono (suc n) f g h = omega (arith, sum_mono n f g (λ i l. h i (omega arith)), h n (omega arith))

pub sum_add : (n : ℕ) (f g : ℕ → ℕ) → sum_below n (λ i. f i + g i) ≡ sum_below n f + sum_below n g
sum_add zero f g = refl
sum_add (suc n) f g = omega (arith, sum_add n f g)

pub sum_mul : (n : ℕ) (f : ℕ → ℕ) (c : ℕ) → sum_below n (λ i. f i * c) ≡ sum_below n f * c
sum_mul zero f c = omega arith
sum_mul (suc n) f c = omega (arith, sum_mul n f c)

pub sum_const : (n c : ℕ) → sum_below n (λ i. c) ≡ n * c
sum_const zero c = omega arith
sum_const (suc n) c = omega (arith, sum_const n c)

-- the first term apart
pub sum_first : (n : ℕ) (f : ℕ → ℕ) → sum_below (suc n) f ≡ f 0 + sum_below n (λ i. f (suc i))
sum_first zero f = omega arith
sum_first (suc n) f = omega (arith, sum_first n f)

-- a sum over rows and columns, either way
pub sum_swap : (n m : ℕ) (f : ℕ → ℕ → ℕ) → sum_below n (λ i. sum_below m (λ j. f i j)) ≡ sum_below m (λ j. sum_below n (λ i. f i j))
sum_swap zero m f = sym (sum_zero m (λ j. 0) (λ j l. refl))
sum_swap (suc n) m f = omega (arith, sum_swap n m f, sum_add m (λ j. sum_below n (λ i. f i j)) (λ j. f n j))

-- each term is at most the sum
pub term_le_sum : (n : ℕ) (f : ℕ → ℕ) (k : ℕ) → k < n → f k ≤ sum_below n f
term_le_sum zero f k h = omega arith
term_le_sum (suc n) f k h = elim (ℕ_discrete k n) [
  | yes e ↦ omega (arith, ap f e)
  | no d ↦ omega (arith, term_le_sum n f k (omega arith))
]

-- a sum of fewer terms is at most the sum
pub sum_prefix : (n : ℕ) (f : ℕ → ℕ) (i : ℕ) → i ≤ n → sum_below i f ≤ sum_below n f
sum_prefix zero f i h = let e : i ≡ 0 = omega arith in rw e (omega arith)
sum_prefix (suc n) f i h = elim (ℕ_discrete i (suc n)) [
  | yes e ↦ rw e (omega arith)
  | no d ↦ omega (arith, sum_prefix n f i (omega arith))
]

-- where only one term is not 0
pub sum_only : (n : ℕ) (f : ℕ → ℕ) (k : ℕ) → k < n → ((i : ℕ) → i < n → i ≢ k → f i ≡ 0) → sum_below n f ≡ f k
sum_only zero f k l h = omega arith
sum_only (suc n) f k l h = elim (ℕ_discrete k n) [
  | yes e ↦ omega (arith, ap f e, sum_zero n f (λ i m. h i (omega arith) (omega arith)))
  | no d ↦ omega (arith, sum_only n f k (omega arith) (λ i m e. h i (omega arith) e), h n (omega arith) (omega arith))
]

-- a sum that is not 0 has a term that is not 0
pub sum_some : (n : ℕ) (f : ℕ → ℕ) → 1 ≤ sum_below n f → (k : ℕ) × (k < n) × (1 ≤ f k)
sum_some zero f h = absurd (omega arith)
sum_some (suc n) f h = elim (ℕ_discrete (f n) 0) [
  | yes e ↦ (let r = sum_some n f (omega arith) in (r.0, omega arith, r.2))
  | no d ↦ (n, omega arith, omega arith)
]

-- a sum of at most 1 has at most one term that is not 0
pub sum_unique : (n : ℕ) (f : ℕ → ℕ) → sum_below n f ≤ 1 → (i j : ℕ) → i < n → j < n → 1 ≤ f i → 1 ≤ f j → i ≡ j
sum_unique zero f s i j a b p q = omega arith
sum_unique (suc n) f s i j a b p q = elim (ℕ_discrete i n) [
  | yes e ↦ elim (ℕ_discrete j n) [ yes d ↦ omega arith | no d ↦ omega (arith, ap f e, term_le_sum n f j (omega arith)) ]
  | no e ↦ elim (ℕ_discrete j n) [
    | yes d ↦ omega (arith, ap f d, term_le_sum n f i (omega arith))
    | no d ↦ sum_unique n f (omega arith) i j (omega arith) (omega arith) p q
  ]
]

-- terms that are each at most another sum's, with equal sums, are equal
pub sum_tight : (n : ℕ) (f g : ℕ → ℕ) → ((i : ℕ) → i < n → f i ≤ g i) → sum_below n f ≡ sum_below n g → (k : ℕ) → k < n → f k ≡ g k
sum_tight zero f g h s k l = omega arith
sum_tight (suc n) f g h s k l =
    let below : (i : ℕ) → i < n → f i ≤ g i = λ i m. h i (omega arith) in
    elim (ℕ_discrete k n) [
      | yes e ↦ omega (arith, ap f e, ap g e, h n (omega arith), sum_mono n f g below)
      | no d ↦ sum_tight n f g below (omega (arith, h n (omega arith), sum_mono n f g below)) k (omega arith)
    ]

-- ---- tests
pub and_both : (a b : Bool) → (a && b) ≡ true → (a ≡ true) × (b ≡ true)
and_both true b e = (refl, e)
and_both false b e = (e, cc)

pub and_three : (a b c : Bool) → (a && b && c) ≡ true → (a ≡ true) × (b ≡ true) × (c ≡ true)
and_three a b c h = let r = and_both (a && b) c h in let s = and_both a b r.0 in (s.0, s.1, r.1)

pub and_four : (a b c d : Bool) → (a && b && c && d) ≡ true → (a ≡ true) × (b ≡ true) × (c ≡ true) × (d ≡ true)
and_four a b c d h = let r = and_both (a && b && c) d h in let s = and_three a b c r.0 in (s.0, s.1, s.2, r.1)

pub and_false : (a : Bool) → (a && false) ≡ false
and_false true = refl
and_false false = refl

pub both_and : (a b : Bool) → a ≡ true → b ≡ true → (a && b) ≡ true
both_and a b p q = cc

pub implies_at : (a b : Bool) → implies a b ≡ true → a ≡ true → b ≡ true
implies_at a b h e = cc

pub at_implies : (a b : Bool) → (a ≡ true → b ≡ true) → implies a b ≡ true
at_implies true b h = h refl
at_implies false b h = refl

pub all_each : (n : ℕ) (p : ℕ → Bool) → all_below n p ≡ true → (i : ℕ) → i < n → p i ≡ true
all_each zero p h i l = absurd (omega arith)
all_each (suc n) p h i l = elim (ℕ_discrete i n) [
  | yes e ↦ ap p e ∙ (and_both (all_below n p) (p n) h).1
  | no d ↦ all_each n p (and_both (all_below n p) (p n) h).0 i (omega arith)
]

pub each_all : (n : ℕ) (p : ℕ → Bool) → ((i : ℕ) → i < n → p i ≡ true) → all_below n p ≡ true
each_all zero p h = refl
each_all (suc n) p h = both_and (all_below n p) (p n) (each_all n p (λ i l. h i (omega arith))) (h n (omega arith))

-- one that fails is enough
pub all_fails : (n : ℕ) (p : ℕ → Bool) (i : ℕ) → i < n → p i ≡ false → all_below n p ≡ false
all_fails n p i l e = go (all_below n p) refl
  where
    go : (t : Bool) → all_below n p ≡ t → t ≡ false
    go true h = absurd (true≢false (sym (all_each n p h i l) ∙ e))
    go false h = refl

pub within_at : (lo hi x : ℕ) → within lo hi x ≡ true → (lo ≤ x) × (x ≤ hi)
within_at lo hi x e = let r = and_both (leb lo x) (leb x hi) e in (leb-true lo x r.0, leb-true x hi r.1)

pub at_within : (lo hi x : ℕ) → lo ≤ x → x ≤ hi → within lo hi x ≡ true
at_within lo hi x p q = both_and (leb lo x) (leb x hi) (le-leb lo x p) (le-leb x hi q)

-- ---- `is`
pub is_same : (a b : ℕ) → a ≡ b → is a b ≡ 1
unfolding is
is_same a b e = rw (eq-eqb a b e)

pub is_other : (a b : ℕ) → a ≢ b → is a b ≡ 0
unfolding is
is_other a b e = rw (ne_eqb a b e)

pub is_eq : (a b : ℕ) → 1 ≤ is a b → a ≡ b
is_eq a b h = go (ℕ_discrete a b)
  where
    go : Dec (a ≡ b) → a ≡ b
    go (yes e) = e
    go (no d) = omega (arith, is_other a b d)

pub is_le : (a b : ℕ) → is a b ≤ 1
is_le a b = go (ℕ_discrete a b)
  where
    go : Dec (a ≡ b) → is a b ≤ 1
    go (yes e) = omega (arith, is_same a b e)
    go (no d) = omega (arith, is_other a b d)

-- ---- a factor of 0 or 1
pub bit_le : (b x y : ℕ) → b ≤ 1 → (b ≡ 1 → x ≤ y) → b * x ≤ b * y
bit_le zero x y h f = omega arith
bit_le (suc zero) x y h f = omega (arith, f refl)
bit_le (suc (suc b)) x y h f = absurd (omega arith)

pub bit_eq : (b x y : ℕ) → b ≡ 1 → b * x ≡ b * y → x ≡ y
bit_eq b x y e h = let k : 1 * x ≡ 1 * y = rw e at h in omega arith

-- ---- the least index with a property
first_pick : (n : ℕ) (p : ℕ → Bool) (b : Bool) (r : ℕ) → p 0 ≡ b → (b ≡ false → (r < n) × (p (suc r) ≡ true))
    → (cond b 0 (suc r) < suc n) × (p (cond b 0 (suc r)) ≡ true)
first_pick n p true r e h = (omega arith, e)
first_pick n p false r e h = (omega (arith, (h refl).0), (h refl).1)

pub first_below_lem : (n : ℕ) (p : ℕ → Bool) (i : ℕ) → i < n → p i ≡ true → (first_below n p < n) × (p (first_below n p) ≡ true)
first_below_lem zero p i l h = absurd (omega arith)
first_below_lem (suc n) p zero l h = first_pick n p (p 0) (first_below n (λ k. p (suc k))) refl (λ e. absurd (true≢false (sym h ∙ e)))
first_below_lem (suc n) p (suc i) l h =
    first_pick n p (p 0) (first_below n (λ k. p (suc k))) refl (λ e. first_below_lem n (λ k. p (suc k)) i (omega arith) h)

-- ---- two numbers of 0 or 1
pub bit_iff : {a b : ℕ} → a ≤ 1 → b ≤ 1 → (1 ≤ a → 1 ≤ b) → (1 ≤ b → 1 ≤ a) → a ≡ b
bit_iff {a} {b} p q f g = elim (ℕ_discrete a 0) [
  | yes e ↦ elim (ℕ_discrete b 0) [ yes d ↦ omega arith | no d ↦ omega (arith, g (omega arith)) ]
  | no e ↦ omega (arith, f (omega arith))
]

-- ---- a row of `is`
pub sum_is : (n a : ℕ) → a < n → sum_below n (λ i. is a i) ≡ 1
sum_is n a l = sum_only n (λ i. is a i) a l (λ i m d. is_other a i (λ e. d (sym e))) ∙ is_same a a refl

pub sum_is_times : (n a c : ℕ) → a < n → sum_below n (λ i. is a i * c) ≡ c
sum_is_times n a c l = omega (arith, sum_mul n (λ i. is a i) c, ap (λ (x : ℕ). x * c) (sum_is n a l))

pub mul_both : (a b : ℕ) → 1 ≤ a * b → (1 ≤ a) × (1 ≤ b)
mul_both zero b h = omega arith
mul_both (suc a) zero h = omega arith
mul_both (suc a) (suc b) h = omega arith

-- what holds at 0, .., n - 1 holds at each number below n
abbrev Each : ℕ → (ℕ → Type 0) → Type 0
Each zero P = Unit
Each (suc n) P = P 0 × Each n (λ i. P (suc i))

each_at : (n : ℕ) (P : ℕ → Type 0) → Each n P → (i : ℕ) → i < n → P i
each_at zero P e i l = absurd (omega arith)
each_at (suc n) P e zero l = e.0
each_at (suc n) P e (suc i) l = each_at n (λ j. P (suc j)) e.1 i (omega arith)

pub below_twelve : (P : ℕ → Type 0) → P 0 → P 1 → P 2 → P 3 → P 4 → P 5 → P 6 → P 7 → P 8 → P 9 → P 10 → P 11 → (i : ℕ) → i < 12 → P i
below_twelve P a b c d e f g h i j k l = each_at 12 P (a, (b, (c, (d, (e, (f, (g, (h, (i, (j, (k, (l, tt))))))))))))
