-- What `all` answers over a range of numbers, as a test below a bound. Assumes nothing.
use Rattle.std.proofs.Common.{ℕ, zero, suc, ◌+◌, Bool, true, false, ◌&&◌, List, ◌≡◌, refl, sym, ap, ◌∙◌, arith}
use Rattle.std.specs.List.{range_with_len, list_all, FoldsTo}
use Rattle.std.specs.Fn.{Called}
use Rattle.std.specs.Iterator.{YieldsThen}
use Rattle.std.specs.Option.{MatchOption}
use Rattle.std.specs.Prelude.{Option}
use Rattle.std.specs.declared.ops.Range.{Range}
use Rattle.std.proofs.iter.Yields.{nat_range_steps}
use Rattle.std.proofs.lemmas.Iterator.{YieldsList-from_range}
use Rattle.std.proofs.lemmas.Iterator.Search.{all_from_yields_List}
use denote.Param.Members.{Mut}
use Rattle.mathematics.specs.Below.{all_below}
use Rattle.mathematics.proofs.Tables.{all_ext, all_add}

-- a list of numbers one after the other
all_listed : (a n : ℕ) (p : ℕ → Bool) → list_all p (range_with_len a n) ≡ all_below n (λ k. p (a + k))
all_listed a zero p = refl
all_listed a (suc n) p =
    let q : ℕ → Bool = λ k. p (a + k) in
    let here : p a ≡ q 0 = ap p (omega arith) in
    let rest = all_listed (a + 1) n p ∙ all_ext n (λ k. p ((a + 1) + k)) (λ k. q (1 + k)) (λ k l. ap p (omega arith)) in
    let more : 1 + n ≡ suc n = omega arith in
    (λ u. here u && rest u) ∙ sym (rw more at (all_add 1 n q))

-- `(0..n).all(test)`, of a closure that answers p and changes nothing
pub all_in_range : {F : Type 0} {g : Mut F (ℕ × Unit {0}) Bool} {s : Range ℕ} (p : ℕ → Bool) (n : ℕ) (u : Range ℕ) (f : F) (r : Bool)
    → (xs : List ℕ) × (o : Option ℕ) × (j : F) × YieldsThen nat_range_steps s xs o u × FoldsTo (λ p x q. Called g p (x, tt) true q) f xs j
    × MatchOption o (r ≡ true) (λ x. (r ≡ false) × ((h : F) × Called g j (x, tt) false h))
    → s ≡ record { start = 0; end = n } → ((x : ℕ) (b : Bool) (q : F) → Called g f (x, tt) b q → (q ≡ f) × (b ≡ p x)) → r ≡ all_below n p
all_in_range p n u f r d e k =
    all_from_yields_List p u f r d (YieldsList-from_range 0 n n e (omega arith)) k
    ∙ (all_listed 0 n p ∙ all_ext n (λ k. p (0 + k)) p (λ k l. ap p (omega arith)))
