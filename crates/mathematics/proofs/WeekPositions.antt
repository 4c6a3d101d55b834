-- In tables that meet the rules the positions are 1 to n, each on one product, and they say all of E, F, L and Z. Assumes nothing.
use Prim.Native.Nat.{ℕ, zero, suc, ◌+◌, ◌*◌, ◌<◌, ◌≤◌}
use mathlib.Core.Path.{◌≡◌, sym, ap, ◌∙◌}
use mathlib.Core.Logic.{◌↔◌}
use native.Mathlib.Omega.{arith}
use Rattle.mathematics.specs.Below.{sum_below}
use Rattle.mathematics.specs.Week.{WeekTables, count}
use Rattle.mathematics.specs.Order.{Agree}
use Rattle.mathematics.proofs.Below.{sum_ext, sum_mono, sum_add, sum_mul, sum_swap, sum_tight, term_le_sum, sum_unique, mul_both}
use Rattle.mathematics.proofs.Sums.{bit_one, bit_zero, bit_part, bit_same, marked_le, marked_tight, some_marked, weighted_columns}
use Rattle.mathematics.proofs.WeekRules.{WeekFacts, first_bit, last_bit, all_into, one_last}

module _ (N : ℕ) (x : WeekTables) (w : WeekFacts N x) where
  -- ---- each changeover leads from a position to the next
  -- The rises along all changeovers add up to the last position less the first, which is at most n - 1; there are n - 1 changeovers, and
  -- each rises by 1 at least. So each rises by 1, the first position is 1 and the last is n. (With no first product n is 0.)

  -- all positions are those that a changeover leads to and the first, and also those that one leads from and the last
  to_positions : sum_below N (λ j. sum_below N (λ i. x.changeover i j * x.position j)) + sum_below N (λ j. x.first j * x.position j)
      ≡ sum_below N (λ j. x.assigned j * x.position j)
  to_positions = weighted_columns N x.changeover x.first x.assigned x.position w.into

  from_positions : sum_below N (λ j. sum_below N (λ i. x.changeover i j * x.position i)) + sum_below N (λ i. x.last i * x.position i)
      ≡ sum_below N (λ i. x.assigned i * x.position i)
  from_positions =
      ap (λ (s : ℕ). s + sum_below N (λ i. x.last i * x.position i)) (sum_swap N N (λ j i. x.changeover i j * x.position i))
      ∙ weighted_columns N (λ j i. x.changeover i j) x.last x.assigned x.position w.out

  -- the positions after those that a changeover leads from
  next_positions : sum_below N (λ j. sum_below N (λ i. x.changeover i j * (x.position i + 1)))
      ≡ sum_below N (λ j. sum_below N (λ i. x.changeover i j * x.position i)) + sum_below N (λ j. sum_below N (λ i. x.changeover i j))
  next_positions =
      sum_ext N (λ j. sum_below N (λ i. x.changeover i j * (x.position i + 1)))
      (λ j. sum_below N (λ i. x.changeover i j * x.position i) + sum_below N (λ i. x.changeover i j))
      (λ j m. sum_ext N (λ i. x.changeover i j * (x.position i + 1)) (λ i. x.changeover i j * x.position i + x.changeover i j)
      (λ i l. omega arith) ∙ sum_add N (λ i. x.changeover i j * x.position i) (λ i. x.changeover i j))
      ∙ sum_add N (λ j. sum_below N (λ i. x.changeover i j * x.position i)) (λ j. sum_below N (λ i. x.changeover i j))

  column_rises : (j : ℕ) → j < N
      → sum_below N (λ i. x.changeover i j * (x.position i + 1)) ≤ sum_below N (λ i. x.changeover i j * x.position j)
  column_rises j m =
      marked_le N (λ i. x.changeover i j) (λ i. x.position i + 1) (λ i. x.position j)
      (λ i l. w.changeover_bit i l j m) (λ i l. w.rises i l j m)

  first_low : (j : ℕ) → j < N → x.first j ≡ 1 → 1 ≤ x.position j
  first_low j m e = omega (arith, w.into j m, w.low j m)

  -- the sums that bound each other
  rise : sum_below N (λ j. sum_below N (λ i. x.changeover i j * (x.position i + 1)))
      ≤ sum_below N (λ j. sum_below N (λ i. x.changeover i j * x.position j))
  rise =
      sum_mono N (λ j. sum_below N (λ i. x.changeover i j * (x.position i + 1)))
      (λ j. sum_below N (λ i. x.changeover i j * x.position j)) column_rises

  first_sum : sum_below N (λ j. x.first j * 1) ≡ sum_below N x.first
  first_sum = omega (arith, sum_mul N x.first 1)

  first_bound : sum_below N (λ j. x.first j * 1) ≤ sum_below N (λ j. x.first j * x.position j)
  first_bound = marked_le N x.first (λ j. 1) x.position (first_bit w) first_low

  last_sum : sum_below N (λ i. x.last i * count N x) ≤ count N x
  last_sum = omega (arith, sum_mul N x.last (count N x), bit_part (sum_below N x.last) (count N x) (omega (arith, one_last w, w.one_first)))

  last_bound : sum_below N (λ i. x.last i * x.position i) ≤ sum_below N (λ i. x.last i * count N x)
  last_bound = marked_le N x.last x.position (λ i. count N x) (last_bit w) (λ i l e. w.high i l)

  -- so they are equal
  tight : (sum_below N (λ j. x.first j * 1) ≡ sum_below N (λ j. x.first j * x.position j))
      × (sum_below N (λ i. x.last i * x.position i) ≡ sum_below N (λ i. x.last i * count N x))
      × (sum_below N (λ j. sum_below N (λ i. x.changeover i j * (x.position i + 1)))
      ≡ sum_below N (λ j. sum_below N (λ i. x.changeover i j * x.position j)))
  tight = omega (arith, all_into w, to_positions, from_positions, next_positions, rise, first_sum, first_bound, last_sum, last_bound)

  -- and term by term
  first_position : (j : ℕ) → j < N → x.first j ≡ 1 → x.position j ≡ 1
  first_position j m e =
      sym (marked_tight N x.first (λ k. 1) x.position (first_bit w) first_low tight.0 j m e)

  last_position : (i : ℕ) → i < N → x.last i ≡ 1 → x.position i ≡ count N x
  last_position i l e =
      marked_tight N x.last x.position (λ k. count N x) (last_bit w) (λ k m f. w.high k m) tight.1 i l e

  next_position : (i : ℕ) → i < N → (j : ℕ) → j < N → x.changeover i j ≡ 1 → x.position j ≡ suc (x.position i)
  next_position i l j m e =
      let column = sum_tight N (λ v. sum_below N (λ u. x.changeover u v * (x.position u + 1)))
      (λ v. sum_below N (λ u. x.changeover u v * x.position v)) column_rises tight.2 j m in
      let r = marked_tight N (λ u. x.changeover u j) (λ u. x.position u + 1) (λ u. x.position j)
      (λ u k. w.changeover_bit u k j m) (λ u k. w.rises u k j m) column i l e in
      omega arith

  -- ---- the tables by the positions
  pub assigned_position : (i : ℕ) → i < N → x.assigned i ≡ 1 ↔ 1 ≤ x.position i
  assigned_position i l = (
    λ e. omega (arith, w.low i l),
    λ h. bit_one (x.assigned i) (w.assigned_bit i l) (λ e. omega (arith, w.absent i l e)),
  )

  -- a changeover leads from a product that is assigned
  from_assigned : (i : ℕ) → i < N → (j : ℕ) → j < N → x.changeover i j ≡ 1 → 1 ≤ x.position i
  from_assigned i l j m e = omega (arith, w.out i l, w.low i l, term_le_sum N (x.changeover i) j m)

  before : (j : ℕ) → j < N → 1 ≤ x.position j → x.first j ≡ 0 → (i : ℕ) × (i < N) × (x.changeover i j ≡ 1)
  before j m p f =
      some_marked N (λ i. x.changeover i j) (λ i l. w.changeover_bit i l j m) (omega (arith, w.into j m, (assigned_position j m).1 p))

  after : (i : ℕ) → i < N → 1 ≤ x.position i → x.last i ≡ 0 → (j : ℕ) × (j < N) × (x.changeover i j ≡ 1)
  after i l p f = some_marked N (x.changeover i) (w.changeover_bit i l) (omega (arith, w.out i l, (assigned_position i l).1 p))

  pub first_position_one : (i : ℕ) → i < N → x.first i ≡ 1 ↔ x.position i ≡ 1
  first_position_one i l = (
    first_position i l,
    λ h. bit_one (x.first i) (first_bit w i l) (λ e.
        let r = before i l (omega arith) e in
        omega (arith, next_position r.0 r.1 i l r.2, from_assigned r.0 r.1 i l r.2)),
  )

  pub last_position_count : (i : ℕ) → i < N → x.last i ≡ 1 ↔ ((1 ≤ x.position i) × (x.position i ≡ count N x))
  last_position_count i l = (
    λ e. (omega (arith, w.out i l, w.low i l), last_position i l e),
    λ h. bit_one (x.last i) (last_bit w i l) (λ e.
        let r = after i l h.0 e in
        omega (arith, h.1, next_position i l r.0 r.1 r.2, w.high r.0 r.1)),
  )

  -- a product before the last position has one at the next position after it
  follower : (i : ℕ) → i < N → 1 ≤ x.position i → x.position i < count N x
      → (j : ℕ) × (j < N) × (x.changeover i j ≡ 1) × (x.position j ≡ suc (x.position i))
  follower i l p h =
      let r = after i l p (bit_zero (x.last i) (last_bit w i l) (λ e. omega (arith, last_position i l e))) in
      (r.0, r.1, r.2, next_position i l r.0 r.1 r.2)

  -- where there is a product, there is a first one
  pub some_first : 1 ≤ count N x → sum_below N x.first ≡ 1
  some_first h =
      let s : 1 ≤ sum_below N x.last * count N x = omega (
        arith,
        sum_mul N x.last (count N x),
        all_into w,
        to_positions,
        from_positions,
        next_positions,
        rise,
        first_sum,
        first_bound,
        last_sum,
        last_bound,
      ) in
      omega (arith, (mul_both (sum_below N x.last) (count N x) s).0, one_last w, w.one_first)

  -- each position has a product
  pub position_some : (k : ℕ) → k < count N x → (i : ℕ) × (i < N) × (x.position i ≡ suc k)
  position_some zero h =
      let r = some_marked N x.first (first_bit w) (omega (arith, some_first (omega arith))) in
      (r.0, r.1, first_position r.0 r.1 r.2)
  position_some (suc k) h =
      let r = position_some k (omega arith) in
      let s = follower r.0 r.1 (omega (arith, r.2)) (omega (arith, r.2)) in
      (s.0, s.1, omega (arith, s.3, r.2))

  -- and only one
  pub position_only : (k i j : ℕ) → i < N → j < N → x.position i ≡ suc k → x.position j ≡ suc k → i ≡ j
  position_only zero i j l m p q =
      sum_unique N x.first (omega (arith, w.one_first)) i j l m
      (omega (arith, (first_position_one i l).1 p)) (omega (arith, (first_position_one j m).1 q))
  position_only (suc k) i j l m p q =
      let past : (v : ℕ) → v < N → x.position v ≡ suc (suc k) → x.first v ≡ 0 =
      λ v n o. bit_zero (x.first v) (first_bit w v n) (λ e. omega (arith, first_position v n e)) in
      let a = before i l (omega arith) (past i l p) in
      let b = before j m (omega arith) (past j m q) in
      let same = position_only k a.0 b.0 a.1 b.1
      (omega (arith, next_position a.0 a.1 i l a.2)) (omega (arith, next_position b.0 b.1 j m b.2)) in
      sum_unique N (x.changeover a.0) (omega (arith, w.out a.0 a.1, w.assigned_bit a.0 a.1)) i j l m
      (omega (arith, a.2)) (omega (arith, b.2, ap (λ (v : ℕ). x.changeover v j) same))

  pub changeover_position : (i : ℕ) → i < N → (j : ℕ) → j < N
      → x.changeover i j ≡ 1 ↔ ((1 ≤ x.position i) × (x.position j ≡ suc (x.position i)))
  changeover_position i l j m = (
    λ e. (from_assigned i l j m e, next_position i l j m e),
    λ r.
        let s = follower i l r.0 (omega (arith, r.1, w.high j m)) in
        sym (ap (x.changeover i) (position_only (x.position i) s.0 j s.1 m s.3 r.1)) ∙ s.2,
  )

-- two weeks that meet the rules, with the same positions, agree in every table
pub agree_by_position : (N : ℕ) (x y : WeekTables) → WeekFacts N x → WeekFacts N y → ((i : ℕ) → i < N → x.position i ≡ y.position i)
    → Agree N x y
agree_by_position N x y v w h = record { assigned = assigned; first = first; last = last; position = h; changeover = changeover }
  where
    assigned : (i : ℕ) → i < N → x.assigned i ≡ y.assigned i
    assigned i l =
        bit_same (v.assigned_bit i l) (w.assigned_bit i l) (assigned_position N x v i l) (rw (h i l) (assigned_position N y w i l))

    first : (i : ℕ) → i < N → x.first i ≡ y.first i
    first i l =
        bit_same (first_bit v i l) (first_bit w i l) (first_position_one N x v i l) (rw (h i l) (first_position_one N y w i l))

    last : (i : ℕ) → i < N → x.last i ≡ y.last i
    last i l =
        bit_same (last_bit v i l) (last_bit w i l) (last_position_count N x v i l)
        (rw (h i l, sum_ext N x.assigned y.assigned assigned) (last_position_count N y w i l))

    changeover : (i : ℕ) → i < N → (j : ℕ) → j < N → x.changeover i j ≡ y.changeover i j
    changeover i l j m =
        bit_same (v.changeover_bit i l j m) (w.changeover_bit i l j m) (changeover_position N x v i l j m)
        (rw (h i l, h j m) (changeover_position N y w i l j m))
