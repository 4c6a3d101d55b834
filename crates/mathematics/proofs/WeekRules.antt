-- What the rules 31, 32 and 34 say of a week's tables, as facts about numbers, both ways. Assumes nothing.
use Prim.Native.Nat.{ℕ, ◌+◌, ◌<◌, ◌≤◌}
use mathlib.Core.Path.{◌≡◌, refl, sym, ◌∙◌}
use mathlib.Core.Logic.{◌↔◌, ◌≢◌, ◌⊎◌, inl, inr}
use mathlib.Core.Bool.{Bool, true, false, ◌&&◌, ◌||◌, cond, or-true}
use native.Mathlib.Omega.{arith}
use native.Mathlib.Decide.{ℕ_discrete}
use lib.Dec.{eqb, leb}
use borrow.Author.Tests.{eqb-true, eqb-false, leb-true, eq-eqb, ne_eqb, le-leb}
use Rattle.mathematics.specs.Below.{sum_below, all_below, implies, within}
use Rattle.mathematics.specs.Week.{WeekTables, count, binary, marked_once, one_each, shut, rule31, OneMark, NoMark, rule32, rule34, Meets}
use Rattle.mathematics.specs.Order.{Agree}
use Rattle.mathematics.proofs.Below.{sum_ext, sum_zero, sum_add, sum_swap, term_le_sum, all_each, each_all}
use Rattle.mathematics.proofs.Below.{and_both, and_three, and_four, both_and, implies_at, at_implies, within_at, at_within}
use Rattle.mathematics.proofs.Sums.{bit_zero, all_equal, equal_all}

-- a week with at most one first product: of an order, or of no product
pub record WeekFacts (N : ℕ) (x : WeekTables) : Type 0 where
  pub assigned_bit : (i : ℕ) → i < N → x.assigned i ≤ 1
  pub changeover_bit : (i : ℕ) → i < N → (j : ℕ) → j < N → x.changeover i j ≤ 1
  pub one_first : sum_below N x.first ≤ 1
  pub into : (j : ℕ) → j < N → sum_below N (λ i. x.changeover i j) + x.first j ≡ x.assigned j
  pub out : (i : ℕ) → i < N → sum_below N (λ j. x.changeover i j) + x.last i ≡ x.assigned i
  pub absent : (i : ℕ) → i < N → x.assigned i ≡ 0 → x.position i ≡ 0
  pub low : (i : ℕ) → i < N → x.assigned i ≤ x.position i
  pub high : (i : ℕ) → i < N → x.position i ≤ count N x
  pub rises : (i : ℕ) → i < N → (j : ℕ) → j < N → x.changeover i j ≡ 1 → x.position i + 1 ≤ x.position j

module _ {N : ℕ} {x : WeekTables} (w : WeekFacts N x) where
  pub first_bit : (i : ℕ) → i < N → x.first i ≤ 1
  first_bit i l = omega (arith, w.into i l, w.assigned_bit i l)

  pub last_bit : (i : ℕ) → i < N → x.last i ≤ 1
  last_bit i l = omega (arith, w.out i l, w.assigned_bit i l)

  -- the changeovers and the first product, or the last, are all products
  pub all_into : sum_below N (λ j. sum_below N (λ i. x.changeover i j)) + sum_below N x.first ≡ count N x
  all_into =
      sym (sum_add N (λ j. sum_below N (λ i. x.changeover i j)) x.first)
      ∙ sum_ext N (λ j. sum_below N (λ i. x.changeover i j) + x.first j) x.assigned w.into

  all_out : sum_below N (λ i. sum_below N (λ j. x.changeover i j)) + sum_below N x.last ≡ count N x
  all_out =
      sym (sum_add N (λ i. sum_below N (λ j. x.changeover i j)) x.last)
      ∙ sum_ext N (λ i. sum_below N (λ j. x.changeover i j) + x.last i) x.assigned w.out

  -- as many last products as first ones
  pub one_last : sum_below N x.last ≡ sum_below N x.first
  one_last = omega (arith, all_into, all_out, sum_swap N N (λ i j. x.changeover i j))

-- ---- the parts of the rules, over any table
-- one mark, on a product that is assigned
module _ (N : ℕ) (mark assigned : ℕ → ℕ) where
  once_facts : marked_once N mark assigned ≡ true → OneMark N mark assigned
  unfolding marked_once
  once_facts h =
      let r = and_both (eqb (sum_below N mark) 1) (all_below N (λ i. implies (eqb (mark i) 1) (eqb (assigned i) 1))) h in (
        eqb-true (sum_below N mark) 1 r.0,
        λ i l e. eqb-true (assigned i) 1 (implies_at (eqb (mark i) 1) (eqb (assigned i) 1) (all_each N _ r.1 i l) (eq-eqb (mark i) 1 e)),
      )

  facts_once : OneMark N mark assigned → marked_once N mark assigned ≡ true
  unfolding marked_once
  facts_once h =
      both_and _ _ (eq-eqb (sum_below N mark) 1 h.0) (each_all N _ (λ i l. at_implies (eqb (mark i) 1) (eqb (assigned i) 1)
      (λ q. eq-eqb (assigned i) 1 (h.1 i l (eqb-true (mark i) 1 q)))))

-- the positions of a product that is assigned, and of one that is not
position_at_lem : (e o n : ℕ) → cond (eqb e 0) (eqb o 0) (within 1 n o) ≡ true → e ≤ 1 → (e ≡ 0 → o ≡ 0) × (e ≤ o) × (o ≤ n)
position_at_lem e o n h b = go (eqb e 0) refl h
  where
    go : (t : Bool) → eqb e 0 ≡ t → cond t (eqb o 0) (within 1 n o) ≡ true → (e ≡ 0 → o ≡ 0) × (e ≤ o) × (o ≤ n)
    go true q k = let z = eqb-true e 0 q in let y = eqb-true o 0 k in (λ x. y, omega arith, omega arith)
    go false q k = let c = within_at 1 n o k in (λ x. absurd (eqb-false e 0 q x), omega (arith, c.0), c.1)

at_position : (e o n : ℕ) → (e ≡ 0 → o ≡ 0) → e ≤ o → o ≤ n → cond (eqb e 0) (eqb o 0) (within 1 n o) ≡ true
at_position e o n p q r = go (ℕ_discrete e 0)
  where
    go : Dec (e ≡ 0) → cond (eqb e 0) (eqb o 0) (within 1 n o) ≡ true
    go (yes z) = rw (eq-eqb e 0 z) (eq-eqb o 0 (p z))
    go (no z) = rw (ne_eqb e 0 z) (at_within 1 n o (omega arith) r)

-- ---- from the tests to the facts
module _ (N : ℕ) (x : WeekTables) where
  pub binary_at : binary N x ≡ true → (i : ℕ) → i < N
      → (x.assigned i ≤ 1) × (x.first i ≤ 1) × (x.last i ≤ 1) × ((j : ℕ) → j < N → x.changeover i j ≤ 1)
  unfolding binary
  binary_at h i l =
      let r = and_four (leb (x.assigned i) 1) (leb (x.first i) 1) (leb (x.last i) 1) (all_below N (λ j. leb (x.changeover i j) 1))
      (all_each N _ h i l) in (
        leb-true (x.assigned i) 1 r.0,
        leb-true (x.first i) 1 r.1,
        leb-true (x.last i) 1 r.2,
        λ j m. leb-true (x.changeover i j) 1 (all_each N (λ k. leb (x.changeover i k) 1) r.3 j m),
      )

  pub at_binary : ((i : ℕ) → i < N
      → (x.assigned i ≤ 1) × (x.first i ≤ 1) × (x.last i ≤ 1) × ((j : ℕ) → j < N → x.changeover i j ≤ 1)) → binary N x ≡ true
  unfolding binary
  at_binary h =
      each_all N _ (λ i l. both_and _ _ (both_and _ _ (both_and _ _
      (le-leb (x.assigned i) 1 (h i l).0)
      (le-leb (x.first i) 1 (h i l).1))
      (le-leb (x.last i) 1 (h i l).2))
      (each_all N _ (λ j m. le-leb (x.changeover i j) 1 ((h i l).3 j m))))

  pub facts31 : one_each N x ≡ true → OneMark N x.first x.assigned × OneMark N x.last x.assigned
  unfolding one_each
  facts31 h =
      let r = and_both (marked_once N x.first x.assigned) (marked_once N x.last x.assigned) h in
      (once_facts N x.first x.assigned r.0, once_facts N x.last x.assigned r.1)

  facts32 : rule32 N x ≡ true
      → ((j : ℕ) → j < N → sum_below N (λ i. x.changeover i j) + x.first j ≡ x.assigned j)
      × ((i : ℕ) → i < N → sum_below N (λ j. x.changeover i j) + x.last i ≡ x.assigned i)
  unfolding rule32
  facts32 h =
      let r = and_three (all_below N (λ i. eqb (x.changeover i i) 0))
      (all_below N (λ j. eqb (sum_below N (λ i. x.changeover i j) + x.first j) (x.assigned j)))
      (all_below N (λ i. eqb (sum_below N (λ j. x.changeover i j) + x.last i) (x.assigned i))) h in (
        all_equal N (λ j. sum_below N (λ i. x.changeover i j) + x.first j) x.assigned r.1,
        all_equal N (λ i. sum_below N (λ j. x.changeover i j) + x.last i) x.assigned r.2,
      )

  -- the test of the positions of each product, and their rise along each changeover
  facts34 : rule34 N x ≡ true
      → ((i : ℕ) → i < N → cond (eqb (x.assigned i) 0) (eqb (x.position i) 0) (within 1 (count N x) (x.position i)) ≡ true)
      × ((i : ℕ) → i < N → (j : ℕ) → j < N → x.changeover i j ≡ 1 → x.position i + 1 ≤ x.position j)
  unfolding rule34
  facts34 h =
      let r = and_both (all_below N (λ i. cond (eqb (x.assigned i) 0) (eqb (x.position i) 0) (within 1 (count N x) (x.position i))))
      (all_below N (λ i. all_below N (λ j. implies (eqb (x.changeover i j) 1) (leb (x.position i + 1) (x.position j))))) h in (
        all_each N _ r.0,
        λ i l j m e. leb-true (x.position i + 1) (x.position j)
            (implies_at (eqb (x.changeover i j) 1) _ (all_each N _ (all_each N _ r.1 i l) j m) (eq-eqb (x.changeover i j) 1 e)),
      )

  -- rule 34 alone refuses two products in a ring
  pub no_ring : rule34 N x ≡ true → (i : ℕ) → i < N → (j : ℕ) → j < N → x.changeover i j ≡ 1 → x.changeover j i ≡ 1 → ⊥
  no_ring h i l j m e f = let r = (facts34 h).1 in omega (arith, r i l j m e, r j m i l f)

  -- the facts, with at most one first product
  pub facts_of : binary N x ≡ true → sum_below N x.first ≤ 1 → rule32 N x ≡ true → rule34 N x ≡ true → WeekFacts N x
  facts_of bits few h32 h34 =
      let b = binary_at bits in
      let z = facts32 h32 in
      let o = facts34 h34 in
      let at : (i : ℕ) → i < N → (x.assigned i ≡ 0 → x.position i ≡ 0) × (x.assigned i ≤ x.position i) × (x.position i ≤ count N x) =
      λ i l. position_at_lem (x.assigned i) (x.position i) (count N x) (o.0 i l) (b i l).0 in
      record {
        assigned_bit = λ i l. (b i l).0;
        changeover_bit = λ i l. (b i l).3;
        one_first = few;
        into = z.0;
        out = z.1;
        absent = λ i l. (at i l).0;
        low = λ i l. (at i l).1;
        high = λ i l. (at i l).2;
        rises = o.1;
      }

  -- a shut week has no product, no first and no last one
  pub shut_facts : shut N x ≡ true → (count N x ≡ 0) × (sum_below N x.first ≡ 0) × (sum_below N x.last ≡ 0)
  unfolding shut
  shut_facts h =
      let r = and_three (eqb (count N x) 0) (eqb (sum_below N x.first) 0) (eqb (sum_below N x.last) 0) h in
      (eqb-true (count N x) 0 r.0, eqb-true (sum_below N x.first) 0 r.1, eqb-true (sum_below N x.last) 0 r.2)

  pub facts_shut : count N x ≡ 0 → sum_below N x.first ≡ 0 → sum_below N x.last ≡ 0 → shut N x ≡ true
  unfolding shut
  facts_shut e f l =
      both_and _ _ (both_and _ _ (eq-eqb (count N x) 0 e) (eq-eqb (sum_below N x.first) 0 f)) (eq-eqb (sum_below N x.last) 0 l)

  -- mark by mark
  pub shut_each : (shut N x ≡ true) ↔ NoMark N x
  shut_each = (
    λ h i l.
        let r = shut_facts h in (
          omega (arith, r.0, term_le_sum N x.assigned i l),
          omega (arith, r.1, term_le_sum N x.first i l),
          omega (arith, r.2, term_le_sum N x.last i l),
        ),
    λ h. facts_shut (sum_zero N x.assigned (λ i l. (h i l).0)) (sum_zero N x.first (λ i l. (h i l).1)) (sum_zero N x.last (λ i l. (h i l).2)),
  )

  -- a week with a product is not shut
  pub not_shut : count N x ≢ 0 → shut N x ≡ false
  unfolding shut
  not_shut d = rw (ne_eqb (count N x) 0 d)

  -- rule 31: one first and one last product, or none
  pub once_or_shut : rule31 N x ≡ true → (one_each N x ≡ true) ⊎ (shut N x ≡ true)
  unfolding rule31
  once_or_shut h = go (one_each N x) refl h
    where
      go : (t : Bool) → one_each N x ≡ t → t || shut N x ≡ true → (one_each N x ≡ true) ⊎ (shut N x ≡ true)
      go true q k = inl q
      go false q k = inr k

  -- the same in numbers, both ways
  pub rule31_facts : (rule31 N x ≡ true) ↔ ((OneMark N x.first x.assigned × OneMark N x.last x.assigned) ⊎ NoMark N x)
  unfolding rule31 one_each
  rule31_facts = (
    λ h. elim (once_or_shut h) [
      | inl once ↦ inl (facts31 once)
      | inr none ↦ inr (shut_each.0 none)
    ],
    λ h. elim h [
      | inl once ↦ rw (both_and _ _ (facts_once N x.first x.assigned once.0) (facts_once N x.last x.assigned once.1))
      | inr none ↦ rw (shut_each.1 none) (or-true (one_each N x))
    ],
  )

  few_first : (one_each N x ≡ true) ⊎ (shut N x ≡ true) → sum_below N x.first ≤ 1
  few_first (inl h) = omega (arith, (facts31 h).0.0)
  few_first (inr h) = omega (arith, (shut_facts h).1)

  pub week_facts : Meets N x → WeekFacts N x
  week_facts m = facts_of m.is_binary (few_first (once_or_shut m.meets31)) m.meets32 m.meets34

  -- ---- from the facts to the tests
  module _ (w : WeekFacts N x) where
    pub holds_once : sum_below N x.first ≡ 1 → one_each N x ≡ true
    unfolding one_each
    holds_once e =
        both_and _ _
        (facts_once N x.first x.assigned (e, λ i l e. omega (arith, w.into i l, w.assigned_bit i l)))
        (facts_once N x.last x.assigned (one_last w ∙ e, λ i l e. omega (arith, w.out i l, w.assigned_bit i l)))

    pub holds32 : rule32 N x ≡ true
    unfolding rule32
    holds32 =
        both_and _ _ (both_and _ _
        (equal_all N (λ i. x.changeover i i) (λ i. 0)
        (λ i l. bit_zero (x.changeover i i) (w.changeover_bit i l i l) (λ e. omega (arith, w.rises i l i l e))))
        (equal_all N (λ j. sum_below N (λ i. x.changeover i j) + x.first j) x.assigned w.into))
        (equal_all N (λ i. sum_below N (λ j. x.changeover i j) + x.last i) x.assigned w.out)

    pub holds34 : rule34 N x ≡ true
    unfolding rule34
    holds34 =
        both_and _ _
        (each_all N _ (λ i l. at_position (x.assigned i) (x.position i) (count N x) (w.absent i l) (w.low i l) (w.high i l)))
        (each_all N _ (λ i l. each_all N _ (λ j m. at_implies (eqb (x.changeover i j) 1) _
        (λ e. le-leb (x.position i + 1) (x.position j) (w.rises i l j m (eqb-true (x.changeover i j) 1 e))))))

    pub facts_binary : binary N x ≡ true
    facts_binary = at_binary (λ i l. (w.assigned_bit i l, first_bit w i l, last_bit w i l, w.changeover_bit i l))

-- tables that agree below N share the facts, and are of a shut week together
pub shut_agree : (N : ℕ) (x y : WeekTables) → Agree N x y → shut N x ≡ shut N y
unfolding shut
shut_agree N x y a =
    λ u.
    eqb (sum_ext N x.assigned y.assigned a.assigned u) 0
    && eqb (sum_ext N x.first y.first a.first u) 0
    && eqb (sum_ext N x.last y.last a.last u) 0

pub facts_agree : (N : ℕ) (x y : WeekTables) → Agree N x y → WeekFacts N y → WeekFacts N x
facts_agree N x y a w =
    record {
      assigned_bit = λ i l. omega (arith, a.assigned i l, w.assigned_bit i l);
      changeover_bit = λ i l j m. omega (arith, a.changeover i l j m, w.changeover_bit i l j m);
      one_first = omega (arith, sum_ext N x.first y.first a.first, w.one_first);
      into = λ j l. omega (
        arith,
        sum_ext N (λ i. x.changeover i j) (λ i. y.changeover i j) (λ i m. a.changeover i m j l),
        w.into j l,
        a.first j l,
        a.assigned j l,
      );
      out = λ i l. omega (
        arith,
        sum_ext N (x.changeover i) (y.changeover i) (a.changeover i l),
        w.out i l,
        a.last i l,
        a.assigned i l,
      );
      absent = λ i l e. omega (arith, w.absent i l (omega (arith, a.assigned i l)), a.position i l);
      low = λ i l. omega (arith, w.low i l, a.assigned i l, a.position i l);
      high = λ i l. omega (arith, w.high i l, a.position i l, sum_ext N x.assigned y.assigned a.assigned);
      rises = λ i l j m e. omega (arith, w.rises i l j m (omega (arith, a.changeover i l j m)), a.position i l, a.position j m);
    }
