-- What the tables of an order say, in terms of where its products stand; and they meet the rules. Assumes nothing.
use Prim.Native.Nat.{ℕ, suc, ◌+◌, ◌*◌, ◌-◌, ◌<◌, ◌≤◌}
use mathlib.Core.Path.{◌≡◌, refl, sym, ap, ◌∙◌}
use mathlib.Core.Logic.{◌↔◌}
use mathlib.Core.Bool.{true, not}
use mathlib.Core.List.{List, [], ◌∷◌}
use native.Mathlib.Omega.{arith}
use native.Mathlib.Decide.{ℕ_discrete, dec_lt}
use lib.ListN.{length}
use lib.Dec.{eqb, ltb}
use borrow.Author.Tests.{ltb-true, lt-ltb, eqb-false, ne_eqb, not-true}
use Rattle.mathematics.specs.Below.{sum_below, all_below, is}
use Rattle.mathematics.specs.Week.{count}
use Rattle.mathematics.specs.Order.{order_at, ProductsBelow, is_order, assigned_in, first_in, last_in, position_from, position_in, changeover_in, order_tables}
use Rattle.mathematics.proofs.Below.{sum_ext, sum_zero, sum_add, sum_const, sum_first, sum_only, sum_some, sum_unique, sum_is, sum_is_times}
use Rattle.mathematics.proofs.Below.{is_same, is_other, is_eq, mul_both, and_both, both_and, all_each, each_all}
use Rattle.mathematics.proofs.Sums.{bit_le_one, sum_all_is}
use Rattle.mathematics.proofs.WeekRules.{WeekFacts}

-- ---- what `is_order` tests, both ways
pub record OrderFacts (N : ℕ) (order : List ℕ) : Type 0 where
  pub below : ProductsBelow N order
  pub distinct : (k l : ℕ) → k < length order → l < length order → order_at order k ≡ order_at order l → k ≡ l

module _ (N : ℕ) (order : List ℕ) where
  pub order_facts : is_order N order ≡ true → OrderFacts N order
  unfolding is_order
  order_facts h =
      let r = and_both (all_below (length order) (λ k. ltb (order_at order k) N))
      (all_below (length order) (λ k. all_below k (λ l. not (eqb (order_at order l) (order_at order k))))) h in
      let earlier : (k l : ℕ) → k < length order → l < k → order_at order l ≡ order_at order k → ⊥ =
      λ k l m s. eqb-false (order_at order l) (order_at order k) (not-true (eqb (order_at order l) (order_at order k))
      (all_each k (λ v. not (eqb (order_at order v) (order_at order k))) (all_each (length order) _ r.1 k m) l s)) in
      record {
        below = λ k l. ltb-true (order_at order k) N (all_each (length order) (λ v. ltb (order_at order v) N) r.0 k l);
        distinct = λ k l m s e. elim (dec_lt k l) [
          | yes p ↦ absurd (earlier l k s p e)
          | no p ↦ elim (dec_lt l k) [ yes q ↦ absurd (earlier k l m q (sym e)) | no q ↦ omega arith ]
        ];
      }

  pub facts_order : OrderFacts N order → is_order N order ≡ true
  unfolding is_order
  facts_order o =
      both_and _ _
      (each_all (length order) _ (λ k l. lt-ltb (order_at order k) N (o.below k l)))
      (each_all (length order) _ (λ k l. each_all k _ (λ m s. ap not (ne_eqb (order_at order m) (order_at order k)
      (λ e. let q : m ≡ k = o.distinct m k (omega arith) l e in omega arith)))))

-- ---- sums over the indices where a product stands
sum_where_some : (order : List ℕ) (i m : ℕ) (c : ℕ → ℕ) → 1 ≤ sum_below m (λ k. is (order_at order k) i * c k)
    → (k : ℕ) × (k < m) × (order_at order k ≡ i) × (1 ≤ c k)
sum_where_some order i m c h =
    let r = sum_some m (λ k. is (order_at order k) i * c k) h in
    let b = mul_both (is (order_at order r.0) i) (c r.0) r.2 in
    (r.0, r.1, is_eq (order_at order r.0) i b.0, b.1)

sum_where : (N : ℕ) (order : List ℕ) → OrderFacts N order → (m : ℕ) → m ≤ length order → (c : ℕ → ℕ) (k i : ℕ) → k < m → order_at order k ≡ i
    → sum_below m (λ l. is (order_at order l) i * c l) ≡ c k
sum_where N order o m b c k i l e =
    sum_only m (λ v. is (order_at order v) i * c v) k l
    (λ v s d. rw (is_other (order_at order v) i (λ q. d (o.distinct v k (omega arith) (omega arith) (q ∙ sym e)))) (omega arith))
    ∙ rw (is_same (order_at order k) i e) (omega arith)

-- ---- the tables as such sums
pub assigned_sum : (order : List ℕ) (i : ℕ) → assigned_in order i ≡ sum_below (length order) (λ k. is (order_at order k) i * 1)
assigned_sum [] i = refl
assigned_sum (p ∷ ps) i = omega (arith, assigned_sum ps i, sum_first (length ps) (λ k. is (order_at (p ∷ ps) k) i * 1))

position_from_lem : (k : ℕ) (order : List ℕ) (i : ℕ)
    → position_from k order i ≡ sum_below (length order) (λ m. is (order_at order m) i * suc (k + m))
position_from_lem k [] i = refl
position_from_lem k (p ∷ ps) i =
    omega (
      arith,
      position_from_lem (suc k) ps i,
      sum_first (length ps) (λ m. is (order_at (p ∷ ps) m) i * suc (k + m)),
      sum_ext (length ps) (λ m. is (order_at ps m) i * suc (suc k + m)) (λ m. is (order_at ps m) i * suc (k + suc m))
          (λ m l. ap (λ (x : ℕ). is (order_at ps m) i * suc x) (omega arith)),
    )

pub position_sum : (order : List ℕ) (i : ℕ) → position_in order i ≡ sum_below (length order) (λ m. is (order_at order m) i * suc m)
position_sum order i =
    position_from_lem 0 order i
    ∙ sum_ext (length order) (λ m. is (order_at order m) i * suc (0 + m)) (λ m. is (order_at order m) i * suc m) (λ m k. omega arith)

neighbours_at : (p : ℕ) (ps : List ℕ) (i j : ℕ)
    → changeover_in (p ∷ ps) i j ≡ sum_below (length ps) (λ k. is (order_at (p ∷ ps) k) i * is (order_at (p ∷ ps) (suc k)) j)
neighbours_at p [] i j = omega arith
neighbours_at p (q ∷ ps) i j =
    omega (
      arith,
      neighbours_at q ps i j,
      sum_first (length ps) (λ k. is (order_at (p ∷ q ∷ ps) k) i * is (order_at (p ∷ q ∷ ps) (suc k)) j),
    )

less_one : (n : ℕ) → suc n - 1 ≡ n
less_one n = omega arith

pub changeover_sum : (order : List ℕ) (i j : ℕ)
    → changeover_in order i j ≡ sum_below (length order - 1) (λ k. is (order_at order k) i * is (order_at order (suc k)) j)
changeover_sum [] i j = refl
changeover_sum (p ∷ ps) i j = rw (less_one (length ps)) (neighbours_at p ps i j)

-- products below N, none twice, are an order
pub an_order : (N : ℕ) (ps : List ℕ) → ProductsBelow N ps → ((i : ℕ) → i < N → assigned_in ps i ≤ 1) → is_order N ps ≡ true
an_order N ps below once =
    facts_order N ps (record {
      below = below;
      distinct = λ k m l s e. sum_unique (length ps) (λ u. is (order_at ps u) (order_at ps m) * 1)
          (omega (arith, assigned_sum ps (order_at ps m), once (order_at ps m) (below m s))) k m l s
          (omega (arith, is_same (order_at ps k) (order_at ps m) e)) (omega (arith, is_same (order_at ps m) (order_at ps m) refl));
    })

-- an entry that is not 0 has an index in the order
module _ (order : List ℕ) where
  pub assigned_index : (i : ℕ) → 1 ≤ assigned_in order i → (k : ℕ) × (k < length order) × (order_at order k ≡ i)
  assigned_index i h =
      let r = sum_where_some order i (length order) (λ k. 1) (rw (assigned_sum order i) at h) in
      (r.0, r.1, r.2)

  pub position_index : (i : ℕ) → 1 ≤ position_in order i → (k : ℕ) × (k < length order) × (order_at order k ≡ i)
  position_index i h = let r = sum_where_some order i (length order) suc (rw (position_sum order i) at h) in (r.0, r.1, r.2)

  pub changeover_index : (i j : ℕ) → 1 ≤ changeover_in order i j
      → (k : ℕ) × (suc k < length order) × (order_at order k ≡ i) × (order_at order (suc k) ≡ j)
  changeover_index i j h =
      let r = sum_where_some order i (length order - 1) (λ k. is (order_at order (suc k)) j) (rw (changeover_sum order i j) at h) in
      (r.0, omega (arith, r.1), r.2, is_eq (order_at order (suc r.0)) j r.3)

-- ---- the sums of the tables, for products below N
module _ (N : ℕ) where
  rest : (p : ℕ) (ps : List ℕ) → ProductsBelow N (p ∷ ps) → ProductsBelow N ps
  rest p ps b k l = b (suc k) (omega arith)

  -- Z into a product, and out of it
  into : (ps : List ℕ) → ProductsBelow N ps → (j : ℕ) → sum_below N (λ i. changeover_in ps i j) + first_in ps j ≡ assigned_in ps j
  into [] b j = omega (arith, sum_zero N (λ i. 0) (λ i l. refl))
  into (p ∷ ps) b j =
      omega (
        arith,
        sum_add N (λ i. is p i * first_in ps j) (λ i. changeover_in ps i j),
        sum_is_times N p (first_in ps j) (b 0 (omega arith)),
        into ps (rest p ps b) j,
      )

  out : (ps : List ℕ) → ProductsBelow N ps → (i : ℕ) → sum_below N (λ j. changeover_in ps i j) + last_in ps i ≡ assigned_in ps i
  out [] b i = omega (arith, sum_zero N (λ j. 0) (λ j l. refl))
  out (p ∷ []) b i = omega (arith, sum_zero N (λ j. is p i * 0 + 0) (λ j l. omega arith))
  out (p ∷ q ∷ ps) b i =
      omega (
        arith,
        sum_add N (λ j. is p i * is q j) (λ j. changeover_in (q ∷ ps) i j),
        sum_ext N (λ j. is p i * is q j) (λ j. is q j * is p i) (λ j l. omega arith),
        sum_is_times N q (is p i) (b 1 (omega arith)),
        out (q ∷ ps) (rest p (q ∷ ps) b) i,
      )

module _ (N : ℕ) (order : List ℕ) (o : OrderFacts N order) where
  -- ---- the entries of a product that stands at k
  assigned_of : (k i : ℕ) → k < length order → order_at order k ≡ i → assigned_in order i ≡ 1
  assigned_of k i l e = assigned_sum order i ∙ sum_where N order o (length order) (omega arith) (λ v. 1) k i l e

  position_of : (k i : ℕ) → k < length order → order_at order k ≡ i → position_in order i ≡ suc k
  position_of k i l e = position_sum order i ∙ sum_where N order o (length order) (omega arith) suc k i l e

  changeover_of : (k i j : ℕ) → suc k < length order → order_at order k ≡ i → order_at order (suc k) ≡ j → changeover_in order i j ≡ 1
  changeover_of k i j l e f =
      changeover_sum order i j
      ∙ sum_where N order o (length order - 1) (omega arith) (λ v. is (order_at order (suc v)) j) k i (omega arith) e
      ∙ is_same (order_at order (suc k)) j f

  -- ---- what each table says
  -- E: the product stands in the order
  pub assigned_means : (i : ℕ) → assigned_in order i ≡ 1 ↔ ((k : ℕ) × (k < length order) × (order_at order k ≡ i))
  assigned_means i = (λ e. assigned_index order i (omega arith), λ r. assigned_of r.0 i r.1 r.2)

  -- O: it stands at this index, counted from 1
  pub position_means : (k i : ℕ) → position_in order i ≡ suc k ↔ ((k < length order) × (order_at order k ≡ i))
  position_means k i = (
    λ e.
        let r = position_index order i (omega arith) in
        let same : r.0 ≡ k = omega (arith, position_of r.0 i r.1 r.2) in
        (omega (arith, r.1), sym (ap (order_at order) same) ∙ r.2),
    λ r. position_of k i r.0 r.1,
  )

  -- Z: the one stands directly before the other
  pub changeover_means : (i j : ℕ)
      → changeover_in order i j ≡ 1 ↔ ((k : ℕ) × (suc k < length order) × (order_at order k ≡ i) × (order_at order (suc k) ≡ j))
  changeover_means i j = (λ e. changeover_index order i j (omega arith), λ r. changeover_of r.0 i j r.1 r.2 r.3)

  -- ---- they meet the rules
  -- n is the length of the order
  pub order_count : count N (order_tables order) ≡ length order
  order_count =
      sum_ext N (assigned_in order) (λ i. sum_below (length order) (λ k. is (order_at order k) i * 1)) (λ i l. assigned_sum order i)
      ∙ (sum_all_is N (length order) (order_at order) (λ k. 1) o.below ∙ omega (arith, sum_const (length order) 1))

  absent : (i : ℕ) → assigned_in order i ≡ 0 → position_in order i ≡ 0
  absent i h = elim (ℕ_discrete (position_in order i) 0) [
    | yes e ↦ e
    | no e ↦ (let r = position_index order i (omega arith) in omega (arith, assigned_of r.0 i r.1 r.2))
  ]

  assigned_bit : (i : ℕ) → assigned_in order i ≤ 1
  assigned_bit i = bit_le_one (assigned_in order i) (λ h. (assigned_means i).1 (assigned_index order i h))

  low : (i : ℕ) → assigned_in order i ≤ position_in order i
  low i = elim (ℕ_discrete (assigned_in order i) 0) [
    | yes e ↦ omega arith
    | no e ↦ (let r = assigned_index order i (omega arith) in omega (arith, assigned_bit i, position_of r.0 i r.1 r.2))
  ]

  high : (i : ℕ) → position_in order i ≤ length order
  high i = elim (ℕ_discrete (position_in order i) 0) [
    | yes e ↦ omega arith
    | no e ↦ (let r = position_index order i (omega arith) in omega (arith, r.1, position_of r.0 i r.1 r.2))
  ]

  rises : (i j : ℕ) → changeover_in order i j ≡ 1 → position_in order i + 1 ≤ position_in order j
  rises i j h =
      let r = changeover_index order i j (omega arith) in
      omega (arith, position_of r.0 i (omega (arith, r.1)) r.2, position_of (suc r.0) j r.1 r.3)

  pub order_week_facts : WeekFacts N (order_tables order)
  order_week_facts =
      record {
        assigned_bit = λ i l. assigned_bit i;
        changeover_bit = λ i l j m. bit_le_one (changeover_in order i j) (λ h. (changeover_means i j).1 (changeover_index order i j h));
        one_first = one_first order o.below;
        into = λ j l. into N order o.below j;
        out = λ i l. out N order o.below i;
        absent = λ i l. absent i;
        low = λ i l. low i;
        high = λ i l. omega (arith, high i, order_count);
        rises = λ i l j m. rises i j;
      }
    where
      one_first : (ps : List ℕ) → ProductsBelow N ps → sum_below N (first_in ps) ≤ 1
      one_first [] b = omega (arith, sum_zero N (λ i. 0) (λ i l. refl))
      one_first (p ∷ ps) b = omega (arith, sum_is N p (b 0 (omega arith)))
