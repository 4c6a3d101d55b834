-- The product of a slot: the first whose place is the slot's number and one. Assumes nothing.
use Rattle.std.proofs.Common.{ℕ, zero, suc, ◌+◌, ◌≤◌, ◌<◌, Bool, true, false, List, ◌≡◌, refl, ap, ◌∙◌, arith}
use Rattle.std.specs.List.{range_with_len, position_or_len, FoldsTo}
use Rattle.std.specs.Fn.{Called}
use Rattle.std.specs.Iterator.{YieldsThen}
use Rattle.std.specs.Option.{MatchOption, unwrap_or}
use Rattle.std.specs.Prelude.{Option, Some, None, length}
use Rattle.std.specs.declared.ops.Range.{Range}
use Rattle.std.proofs.iter.Yields.{nat_range_steps}
use Rattle.std.proofs.lemmas.Iterator.{YieldsList-from_range}
use Rattle.std.proofs.lemmas.Iterator.Search.{position_from_yields_List}
use Rattle.std.proofs.lemmas.List.FromFn.{length-range_with_len}
use denote.Param.Members.{Mut}
use borrow.Author.Tests.{tests, eq-eqb, ne_eqb}
use mathlib.Core.Bool.{cond, not}
use lib.Dec.{eqb, ltb}
use Rattle.mathematics.specs.Below.{first_below}

swap : (b : Bool) (m : ℕ) → cond (not b) (1 + m) zero ≡ cond b zero (suc m)
swap true m = refl
swap false m = omega arith

-- a list of numbers one after the other
first_listed : (a n : ℕ) (p : ℕ → Bool) → position_or_len p (range_with_len a n) ≡ first_below n (λ k. p (a + k))
first_listed a zero p = refl
first_listed a (suc n) p =
    let here : a ≡ a + 0 = omega arith in
    let there : (k : ℕ) → (a + 1) + k ≡ a + suc k = λ k. omega arith in
    let rest = first_listed (a + 1) n p ∙ (λ u. first_below n (λ k. p (there k u))) in
    swap (p a) (position_or_len p (range_with_len (a + 1) n)) ∙ (λ u. cond (p (here u)) zero (suc (rest u)))

cond_most : (b : Bool) (n m : ℕ) → m ≤ n → cond b zero (suc m) ≤ suc n
cond_most true n m l = omega arith
cond_most false n m l = omega arith

first_most : (n : ℕ) (p : ℕ → Bool) → first_below n p ≤ n
first_most zero p = omega arith
first_most (suc n) p = cond_most (p zero) n (first_below n (λ k. p (suc k))) (first_most n (λ k. p (suc k)))

first_or : (n m : ℕ) (b : Bool) → ltb m n ≡ b → m ≤ n → unwrap_or (cond b (Some m) None) n ≡ m
first_or n m true e l = refl
first_or n m false e l = grind (arith, tests)

-- `(0..n).position(test).unwrap_or(n)`, of a closure that answers p and changes nothing
pub first_in_range : {F : Type 0} {g : Mut F (ℕ × Unit {0}) Bool} {s : Range ℕ} (p : ℕ → Bool) (n : ℕ) (u : Range ℕ) (f : F) (r : Option ℕ)
    → (xs : List ℕ) × (o : Option ℕ) × (j : F) × YieldsThen nat_range_steps s xs o u × FoldsTo (λ p x q. Called g p (x, tt) false q) f xs j
    × MatchOption o (r ≡ None) (λ x. (r ≡ Some (length xs)) × ((h : F) × Called g j (x, tt) true h))
    → s ≡ record { start = 0; end = n } → ((x : ℕ) (b : Bool) (q : F) → Called g f (x, tt) b q → (q ≡ f) × (b ≡ p x))
    → unwrap_or r n ≡ first_below n p
first_in_range p n u f r d e k =
    let here : (k : ℕ) → 0 + k ≡ k = λ k. omega arith in
    let at : position_or_len p (range_with_len 0 n) ≡ first_below n p =
    first_listed 0 n p ∙ (λ i. first_below n (λ k. p (here k i))) in
    let len = length-range_with_len 0 n in
    ap (λ (o : Option ℕ). unwrap_or o n) (position_from_yields_List p u f r d (YieldsList-from_range 0 n n e (omega arith)) k)
    ∙ ((λ i. unwrap_or (cond (ltb (at i) (len i)) (Some (at i)) None) n) ∙ first_or n (first_below n p) _ refl (first_most n p))

-- the first number of a table that has a value
pub first_is : (n : ℕ) (f : ℕ → ℕ) (v i : ℕ) → i < n → ((j : ℕ) → j < i → f j ≡ v → ⊥) → f i ≡ v
    → i ≡ first_below n (λ j. eqb (f j) v)
first_is zero f v i l h e = absurd (omega arith)
first_is (suc n) f v zero l h e = rw (eq-eqb (f 0) v e)
first_is (suc n) f v (suc i) l h e =
    rw (ne_eqb (f 0) v (h 0 (omega arith))) (ap suc (first_is n (λ j. f (suc j)) v i (omega arith) (λ j m. h (suc j) (omega arith)) e))
