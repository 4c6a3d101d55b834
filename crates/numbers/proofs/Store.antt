-- Laws of parts of a list, and of lists stored in another. Assumes nothing.
use Prim.Native.Nat.{ℕ, zero, suc, ◌+◌, ◌-◌, ◌≤◌, ◌<◌}
use mathlib.Core.Path.{◌≡◌, sym, ap, ◌∙◌}
use mathlib.Core.List.{List, [], ◌∷◌, ◌++◌, append_assoc, append-nil}
use native.Mathlib.Omega.{arith}
use native.Mathlib.Nat.{zero-add}
use lib.ListN.{length, get_or, take, drop, length-append, length-drop, drop_of_length-le}
use lib.Seq.{sets-eq, length-sets, length-take-le, take-nil, drop-nil, take_all, take-take, drop-drop}
use lib.Seq.{take_at, drop-append-add, get_or-take, get_or-drop}
use borrow.Rule.Slice.PartMut.{mid_of, put_mid}
use native.Mathlib.Numerals.{add-one}
use Rattle.mathematics.specs.Below.{sum_below, join_below}
use Rattle.mathematics.proofs.Below.{sum_prefix}
use Rattle.mathematics.proofs.Join.{join_part}
use Rattle.numbers.specs.Number.{part, store}

-- ---- parts
part_take : (a n m : ℕ) (s : List ℕ) → a + n ≤ m → take n (drop a (take m s)) ≡ take n (drop a s)
part_take zero n m s h = take-take n m s (omega arith)
part_take (suc a) n m [] h = rw (take-nil m, drop-nil (suc a))
part_take (suc a) n zero (x ∷ s) h = absurd (omega arith)
part_take (suc a) n (suc m) (x ∷ s) h = part_take a n m s (omega arith)

-- a part of a part
pub part_part : (s : List ℕ) (at a n m : ℕ) → a + n ≤ m → part (part s at m) a n ≡ part s (at + a) n
part_part s at a n m h = part_take a n m (drop at s) h ∙ ap (take n) (drop-drop a at s)

pub part_length : (s : List ℕ) (at n : ℕ) → at + n ≤ length s → length (part s at n) ≡ n
part_length s at n h = length-take-le n (drop at s) (rw length-drop (omega arith))

-- a part past the first of two lists
pub part_after : (a b : List ℕ) (at n : ℕ) → part (a ++ b) (length a + at) n ≡ part b at n
part_after a b at n = ap (take n) (drop-append-add a b at)

pub part_get_d : (s : List ℕ) (at n i : ℕ) → i < n → get_or (part s at n) i 0 ≡ get_or s (at + i) 0
part_get_d s at n i h = get_or-take n (drop at s) i 0 h ∙ get_or-drop at s i 0

-- each of the lists that a part of s joins stands where those before it end
pub join_at : (n : ℕ) (f : ℕ → List ℕ) (s : List ℕ) (at m : ℕ) → sum_below n (λ i. length (f i)) ≡ m → part s at m ≡ join_below n f
    → (k : ℕ) → k < n → part s (at + sum_below k (λ i. length (f i))) (length (f k)) ≡ f k
join_at n f s at m q e k l =
    let place = sum_below k (λ i. length (f i)) in
    sym (part_part s at place (length (f k)) m (omega (arith, sum_prefix n (λ i. length (f i)) (suc k) l)))
    ∙ (ap (λ (x : List ℕ). part x place (length (f k))) (e ∙ sym (append-nil (join_below n f))) ∙ join_part n f [] k l)

-- ---- stores
pub store_length : (s : List ℕ) (at : ℕ) (b : List ℕ) → at + length b ≤ length s → length (store s at b) ≡ length s
store_length s at b h = sym (ap length (sets-eq b s at h)) ∙ length-sets s at b

head_length : (s : List ℕ) (at : ℕ) (b : List ℕ) → at ≤ length s → length (take at s ++ b) ≡ at + length b
head_length s at b h = length-append (take at s) b ∙ ap (λ (x : ℕ). x + length b) (length-take-le at s h)

-- a store where the one before ends: one store of both
pub store_store : (s : List ℕ) (at : ℕ) (b c : List ℕ) → at ≤ length s → store (store s at b) (at + length b) c ≡ store s at (b ++ c)
store_store s at b c h =
    let d = drop (at + length b) s in
    let e = head_length s at b h in
    let t : take (at + length b) (store s at b) ≡ take at s ++ b = take_at (take at s ++ b) d (at + length b) e in
    let u : drop (at + length b + length c) (store s at b) ≡ drop (at + length (b ++ c)) s =
    ap (λ (x : ℕ). drop (x + length c) (store s at b)) (sym e)
    ∙ (drop-append-add (take at s ++ b) d (length c)
    ∙ (drop-drop (length c) (at + length b) s ∙ ap (λ (x : ℕ). drop x s) joined)) in
    rw (t, u, append_assoc (take at s) b c)
  where
    joined : at + length b + length c ≡ at + length (b ++ c)
    joined = omega (arith, length-append b c)

-- what is stored in a part that is lent, `&mut s[at..]`, is stored in the whole
pub part_store : (s : List ℕ) (at : ℕ) (b : List ℕ) → at ≤ length s
    → put_mid at (length s - at) s (store (mid_of at (length s - at) s) 0 b) ≡ store s at b
part_store s at b h =
    let n = length s - at in
    let d = drop at s in
    let e : length d ≡ n = length-drop at s in
    let whole : take n d ≡ d = take_all n d (omega arith) in
    let none : drop n d ≡ [] = drop_of_length-le d {i = n} (omega arith) in
    let rest : drop (0 + length b) d ≡ drop (at + length b) s = rw zero-add (drop-drop (length b) at s) in
    rw (whole, none, rest, append-nil (b ++ drop (at + length b) s), append_assoc (take at s) b (drop (at + length b) s))

-- three stores, each where the one before ends
pub store_three : (s a b c : List ℕ) → store (store (store s 0 a) (length a) b) (length a + length b) c ≡ store s 0 (a ++ (b ++ c))
store_three s a b c =
    let two : store (store s 0 a) (length a) b ≡ store s 0 (a ++ b) =
    ap (λ (x : ℕ). store (store s 0 a) x b) (sym (zero-add (length a))) ∙ store_store s 0 a b (omega arith) in
    let e : length a + length b ≡ 0 + length (a ++ b) = omega (arith, length-append a b) in
    rw (two, e, store_store s 0 (a ++ b) c (omega arith), append_assoc a b c)

-- one list more stored at the end of those joined
pub store_join : (i : ℕ) (f : ℕ → List ℕ) (s : List ℕ) (at : ℕ) → length (join_below i f) ≡ at
    → store (store s 0 (join_below i f)) at (f i) ≡ store s 0 (join_below (i + 1) f)
store_join i f s at h =
    let e : at ≡ 0 + length (join_below i f) = omega arith in
    rw (add-one, e) (store_store s 0 (join_below i f) (f i) (omega arith))
