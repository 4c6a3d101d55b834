-- The order theorem of one week: tables meet the rules 31, 32 and 34 exactly where they are the tables of an order, a list of products
-- below N with none twice; the order is unique, and is computed from E and O. Assumes nothing.
use Prim.Native.Nat.{ℕ, zero, suc, ◌<◌}
use mathlib.Core.Path.{◌≡◌, refl, sym, ap, ◌∙◌}
use mathlib.Core.Logic.{◌↔◌}
use mathlib.Core.Bool.{true, false, or-true}
use mathlib.Core.List.{List, [], ◌∷◌}
use native.Mathlib.Omega.{arith}
use native.Mathlib.Decide.{ℕ_discrete}
use lib.ListN.{length}
use lib.Seq.{ext_get_or}
use lib.Dec.{eqb}
use borrow.Author.Tests.{eqb-true, eq-eqb}
use Rattle.mathematics.specs.Week.{WeekTables, count, one_each, shut, rule31, NoProduct, Meets}
use Rattle.mathematics.specs.Order.{order_at, is_order, position_in, order_tables, product_at, order_of, Agree}
use Rattle.mathematics.proofs.Below.{sum_ext, sum_zero, term_le_sum, first_below_lem, is_same}
use Rattle.mathematics.proofs.Lists.{list_length, list_at}
use Rattle.mathematics.proofs.WeekRules.{WeekFacts, all_into, one_last, week_facts, facts_shut, not_shut}
use Rattle.mathematics.proofs.WeekRules.{holds_once, holds32, holds34, facts_binary, facts_agree}
use Rattle.mathematics.proofs.WeekPositions.{some_first, position_some, position_only, agree_by_position}
use Rattle.mathematics.proofs.OrderTables.{OrderFacts, order_facts, facts_order, position_index, position_means}
use Rattle.mathematics.proofs.OrderTables.{order_count, order_week_facts}

-- n is the length of the order that the tables show
pub order_length : (N : ℕ) (x : WeekTables) → length (order_of N x) ≡ count N x
unfolding order_of
order_length N x = list_length (count N x) (product_at N x)

order_product : (N : ℕ) (x : WeekTables) (k : ℕ) → k < count N x → order_at (order_of N x) k ≡ product_at N x k
unfolding order_of
order_product N x k l = list_at (count N x) (product_at N x) k 0 l

module _ (N : ℕ) (x : WeekTables) (w : WeekFacts N x) where
  product_position : (k : ℕ) → k < count N x → (product_at N x k < N) × (x.position (product_at N x k) ≡ suc k)
  unfolding product_at
  product_position k l =
      let r = position_some N x w k l in
      let s = first_below_lem N (λ i. eqb (x.position i) (suc k)) r.0 r.1 (eq-eqb (x.position r.0) (suc k) r.2) in
      (s.0, eqb-true (x.position (product_at N x k)) (suc k) s.1)

  order_position : (k : ℕ) → k < length (order_of N x) → (order_at (order_of N x) k < N) × (x.position (order_at (order_of N x) k) ≡ suc k)
  order_position k l =
      let s : k < count N x = omega (arith, order_length N x) in
      rw (order_product N x k s) (product_position k s)

  shown_facts : OrderFacts N (order_of N x)
  shown_facts =
      record {
        below = λ k l. (order_position k l).0;
        distinct = λ k l m s e. omega (arith, (order_position k m).1, (order_position l s).1, ap x.position e);
      }

  same_position : (i : ℕ) → i < N → x.position i ≡ position_in (order_of N x) i
  same_position i l = go (x.position i) refl
    where
      go : (o : ℕ) → x.position i ≡ o → x.position i ≡ position_in (order_of N x) i
      go zero e = elim (ℕ_discrete (position_in (order_of N x) i) 0) [
        | yes d ↦ omega arith
        | no d ↦
            (let r = position_index (order_of N x) i (omega arith) in
            omega (arith, (order_position r.0 r.1).1, ap x.position r.2))
      ]
      go (suc k) e =
          let s : k < length (order_of N x) = omega (arith, order_length N x, w.high i l) in
          let r = order_position k s in
          omega (arith, (position_means N (order_of N x) shown_facts k i).1 (s, position_only N x w k (order_at (order_of N x) k) i r.0 l r.1 e))

  shown_agree : Agree N x (order_tables (order_of N x))
  shown_agree = agree_by_position N x (order_tables (order_of N x)) w (order_week_facts N (order_of N x) shown_facts) same_position

-- tables that meet the rules: the order computed from them is an order, and they are its tables
module _ (N : ℕ) (x : WeekTables) (m : Meets N x) where
  pub shown_order : is_order N (order_of N x) ≡ true
  shown_order = facts_order N (order_of N x) (shown_facts N x (week_facts N x m))

  pub shown_tables : Agree N x (order_tables (order_of N x))
  shown_tables = shown_agree N x (week_facts N x m)

  -- the k-th product of the order is the product whose position is k + 1
  pub product_at_lem : (k : ℕ) → k < count N x
      → (order_at (order_of N x) k ≡ product_at N x k) × (product_at N x k < N) × (x.position (product_at N x k) ≡ suc k)
  product_at_lem k l = let r = product_position N x (week_facts N x m) k l in (order_product N x k l, r.0, r.1)

-- the facts of a week are the rules: there is a first product, or none at all
pub facts_meet : (N : ℕ) (x : WeekTables) → WeekFacts N x → Meets N x
unfolding rule31
facts_meet N x w =
    record {
      is_binary = facts_binary N x w;
      meets31 = elim (ℕ_discrete (count N x) 0) [
        | yes e ↦
            (let none = facts_shut N x e (omega (arith, all_into w)) (omega (arith, one_last w, all_into w)) in
            rw none (or-true (one_each N x)))
        | no d ↦ rw (holds_once N x w (some_first N x w (omega arith)))
      ];
      meets32 = holds32 N x w;
      meets34 = holds34 N x w;
    }

-- tables that agree with an order's have the facts of a week
pub order_agree : (N : ℕ) (x : WeekTables) (order : List ℕ) → is_order N order ≡ true → Agree N x (order_tables order) → WeekFacts N x
order_agree N x order h a = facts_agree N x (order_tables order) a (order_week_facts N order (order_facts N order h))

pub order_meets : (N : ℕ) (x : WeekTables) (order : List ℕ) → is_order N order ≡ true → Agree N x (order_tables order) → Meets N x
order_meets N x order h a = facts_meet N x (order_agree N x order h a)

-- the order theorem
pub order_theorem : (N : ℕ) (x : WeekTables) → Meets N x ↔ ((order : List ℕ) × (is_order N order ≡ true) × Agree N x (order_tables order))
order_theorem N x = (λ m. (order_of N x, shown_order N x m, shown_tables N x m), λ r. order_meets N x r.0 r.1 r.2)

-- ---- a shut week, of no product
-- without E, all of the week's tables are 0
pub shut_zero : (N : ℕ) (x : WeekTables) → WeekFacts N x → count N x ≡ 0 → NoProduct N x
shut_zero N x w e =
    let none : (i : ℕ) → i < N → x.assigned i ≡ 0 = λ i l. omega (arith, term_le_sum N x.assigned i l) in
    record {
      assigned = none;
      first = λ i l. omega (arith, w.into i l, none i l);
      last = λ i l. omega (arith, w.out i l, none i l);
      position = λ i l. w.absent i l (none i l);
      changeover = λ i l j m. omega (arith, w.out i l, none i l, term_le_sum N (x.changeover i) j m);
    }

-- and such tables are of a week
pub zero_facts : (N : ℕ) (x : WeekTables) → NoProduct N x → WeekFacts N x
unfolding is_order
zero_facts N x z =
    order_agree N x [] refl (record {
      assigned = z.assigned;
      first = z.first;
      last = z.last;
      position = z.position;
      changeover = z.changeover;
    })

-- tables that agree with an order's are those of a shut week exactly where the order is empty
pub agree_shut : (N : ℕ) (x : WeekTables) → Agree N x (order_tables []) → shut N x ≡ true
agree_shut N x a = facts_shut N x (sum_zero N x.assigned a.assigned) (sum_zero N x.first a.first) (sum_zero N x.last a.last)

pub agree_not_shut : (N : ℕ) (x : WeekTables) (p : ℕ) (ps : List ℕ) → p < N → Agree N x (order_tables (p ∷ ps)) → shut N x ≡ false
agree_not_shut N x p ps l a =
    not_shut N x (λ e. absurd (omega (arith, a.assigned p l, is_same p p refl, term_le_sum N x.assigned p l)))

-- two orders with the same positions are equal
pub uniqueness : (N : ℕ) (a b : List ℕ) → is_order N a ≡ true → is_order N b ≡ true
    → ((i : ℕ) → i < N → position_in a i ≡ position_in b i) → a ≡ b
uniqueness N a b ha hb h =
    let p = order_facts N a ha in
    let q = order_facts N b hb in
    let same = agree_by_position N (order_tables a) (order_tables b) (order_week_facts N a p) (order_week_facts N b q) h in
    ext_get_or 0 a b (sym (order_count N a p) ∙ (sum_ext N _ _ same.assigned ∙ order_count N b q))
    (λ k l. sym ((position_means N b q k (order_at a k)).0
    (sym (h (order_at a k) (p.below k l)) ∙ (position_means N a p k (order_at a k)).1 (l, refl))).1)

pub agree_refl : (N : ℕ) (x : WeekTables) → Agree N x x
agree_refl N x =
    record {
      assigned = λ i l. refl;
      first = λ i l. refl;
      last = λ i l. refl;
      position = λ i l. refl;
      changeover = λ i l j m. refl;
    }

-- the order computed from tables that agree with an order's is that order
pub order_shown : (N : ℕ) (x : WeekTables) (order : List ℕ) → is_order N order ≡ true → Agree N x (order_tables order) → order_of N x ≡ order
order_shown N x order h a =
    let w = order_agree N x order h a in
    uniqueness N (order_of N x) order (facts_order N (order_of N x) (shown_facts N x w)) h
    (λ i l. sym ((shown_agree N x w).position i l) ∙ a.position i l)

-- an order is computed back from its own tables
pub order_back : (N : ℕ) (order : List ℕ) → is_order N order ≡ true → order_of N (order_tables order) ≡ order
order_back N order h = order_shown N (order_tables order) order h (agree_refl N (order_tables order))
