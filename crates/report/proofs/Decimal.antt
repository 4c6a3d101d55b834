-- Decimal text: its digits, and its length. Assumes nothing.
use Prim.Native.Nat.{ℕ, zero, suc, ◌+◌, ◌/◌, ◌%◌, ◌^◌, ◌*◌, ◌<◌, ◌≤◌, max}
use mathlib.Core.Path.{◌≡◌, refl, ap}
use mathlib.Core.Bool.{Bool, true, false, cond}
use mathlib.Core.List.{List, [], ◌∷◌, ◌++◌}
use native.Mathlib.Omega.{arith}
use lib.Dec.{ltb}
use lib.ListN.{length, length-append}
use borrow.Author.Tests.{lt-ltb, le-ltb, ltb-true}
use native.Mathlib.Numerals.{add-one}
use Rattle.report.specs.Text.{decimal_of, decimal}

-- ---- the digits
-- the last k digits of a number
abbrev pub digits : ℕ → ℕ → List ℕ
digits zero n = []
digits (suc k) n = digits k (n / 10) ++ ((48 + n % 10) ∷ [])

digits_all : (m n : ℕ) → decimal_of m n ≡ digits (length (decimal_of m n)) n
digits_all zero n = refl
digits_all (suc m) n = by_size (ltb n 10) refl (digits_all m (n / 10))
  where
    whole : Bool → List ℕ
    whole b = cond b ((48 + n) ∷ []) (decimal_of m (n / 10) ++ ((48 + n % 10) ∷ []))

    by_size : (b : Bool) → ltb n 10 ≡ b → decimal_of m (n / 10) ≡ digits (length (decimal_of m (n / 10))) (n / 10)
        → whole b ≡ digits (length (whole b)) n
    by_size true t rest = let small : n % 10 ≡ n = omega (arith, ltb-true n 10 t) in rw small refl
    by_size false t rest = rw (length-append, add-one) (ap (λ (l : List ℕ). l ++ ((48 + n % 10) ∷ [])) rest)

pub digits_length : (k n : ℕ) → length (digits k n) ≡ k
digits_length zero n = refl
digits_length (suc k) n = omega (arith, length-append (digits k (n / 10)) ((48 + n % 10) ∷ []), digits_length k (n / 10))

pub decimal_digits : (n : ℕ) → decimal n ≡ digits (length (decimal n)) n
unfolding decimal
decimal_digits n = digits_all 20 n

-- ---- lengths
digits_more : (b : Bool) (x y : ℕ) (l : List ℕ) (m : ℕ) → length l ≤ m → length (cond b (x ∷ []) (l ++ (y ∷ []))) ≤ suc m
digits_more true x y l m h = omega arith
digits_more false x y l m h = omega (arith, length-append l (y ∷ []))

digits_most : (m n : ℕ) → length (decimal_of m n) ≤ m
digits_most zero n = omega arith
digits_most (suc m) n = digits_more (ltb n 10) (48 + n) (48 + n % 10) (decimal_of m (n / 10)) m (digits_most m (n / 10))

pub decimal_most : (n : ℕ) → length (decimal n) ≤ 20
unfolding decimal
decimal_most n = digits_most 20 n

-- a number below 10 ^ k has at most k digits
digits_below : (m k n : ℕ) → n < 10 ^ suc k → length (decimal_of m n) ≤ suc k
digits_below zero k n h = omega arith
digits_below (suc m) zero n h = rw (lt-ltb n 10 h) (omega arith)
digits_below (suc m) (suc k) n h =
    digits_more (ltb n 10) (48 + n) (48 + n % 10) (decimal_of m (n / 10)) (suc k) (digits_below m k (n / 10) (omega arith))

pub decimal_length : (k n : ℕ) → n < 10 ^ suc k → length (decimal n) ≤ suc k
unfolding decimal
decimal_length k n h = digits_below 20 k n h

ten_some : (k : ℕ) → 1 ≤ 10 ^ k
ten_some zero = omega arith
ten_some (suc k) = omega (arith, ten_some k)

-- a number from 10 ^ k on has more than k digits, and 0 has one
digits_least : (m k n : ℕ) → k < m → 10 ^ k ≤ max n 1 → suc k ≤ length (decimal_of m n)
digits_least zero k n l h = absurd (omega arith)
digits_least (suc m) zero n l h = by_size (ltb n 10) (decimal_of m (n / 10))
  where
    by_size : (b : Bool) (l : List ℕ) → 1 ≤ length (cond b ((48 + n) ∷ []) (l ++ ((48 + n % 10) ∷ [])))
    by_size true l = omega arith
    by_size false l = omega (arith, length-append l ((48 + n % 10) ∷ []))
digits_least (suc m) (suc k) n l h =
    let some = ten_some k in
    let large : 10 ≤ n = omega arith in
    let rest = digits_least m k (n / 10) (omega arith) (omega arith) in
    rw (le-ltb n 10 large, length-append) (omega arith)

pub decimal_count : (k n : ℕ) → k < 20 → 10 ^ k ≤ max n 1 → max n 1 < 10 * 10 ^ k → length (decimal n) ≡ k + 1
unfolding decimal
decimal_count k n l least most = omega (arith, digits_least 20 k n l least, digits_below 20 k n (omega arith))
