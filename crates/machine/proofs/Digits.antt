-- The binary digits of a number, and one more of them. Assumes nothing.
use Prim.Native.Nat.{ℕ, zero, suc, ◌+◌, ◌*◌, ◌/◌, ◌%◌, ◌^◌, ◌≤◌, ◌<◌}
use mathlib.Core.Path.{◌≡◌, refl, sym, ap, ◌∙◌}
use native.Mathlib.Omega.{arith}
use native.Mathlib.Nat.{pow-suc, div-one, div-div-eq-div-mul, mul_comm, zero-div}
use Rattle.mathematics.specs.Below.{is}
use Rattle.mathematics.proofs.Below.{is_same, is_other}
use native.Mathlib.Decide.{ℕ_discrete}
use mathlib.Core.Bool.{false}
use mathlib.Core.Logic.{◌≢◌}
use lib.Dec.{eqb}
use borrow.Author.Tests.{eqb-false}

-- digit i
abbrev pub digit : ℕ → ℕ → ℕ
digit i m = m / 2 ^ i % 2

first_digit : (m : ℕ) → digit 0 m ≡ m % 2
first_digit m = ap (λ (x : ℕ). x % 2) (div-one m)

twice : (i : ℕ) → 2 ^ suc i ≡ 2 * 2 ^ i
twice i = pow-suc 2 i ∙ mul_comm (2 ^ i) 2

next_digit : (i m : ℕ) → digit (suc i) m ≡ digit i (m / 2)
next_digit i m = ap (λ (x : ℕ). m / x % 2) (twice i) ∙ ap (λ (x : ℕ). x % 2) (sym (div-div-eq-div-mul m 2 (2 ^ i)))

same_next : (p i : ℕ) → is p i ≡ is (suc p) (suc i)
same_next p i =
    elim (ℕ_discrete p i) [
      | yes e ↦ is_same p i e ∙ sym (is_same (suc p) (suc i) (ap suc e))
      | no d ↦ is_other p i d ∙ sym (is_other (suc p) (suc i) (λ e. d (omega arith)))
    ]

-- a digit that was 0 becomes 1, and the others stay
pub digit_set : (p i m : ℕ) → digit p m ≡ 0 → digit i (m + 2 ^ p) ≡ digit i m + is p i
digit_set zero zero m h =
    let even : m % 2 ≡ 0 = sym (first_digit m) ∙ h in
    let odd : (m + 1) % 2 ≡ 1 = omega arith in
    first_digit (m + 1) ∙ (odd ∙ (λ u. sym h u + sym (is_same 0 0 refl) u))
digit_set zero (suc i) m h =
    let even : m % 2 ≡ 0 = sym (first_digit m) ∙ h in
    let half : (m + 1) / 2 ≡ m / 2 = omega arith in
    next_digit i (m + 1) ∙ (ap (digit i) half ∙ (sym (next_digit i m)
    ∙ (omega arith ∙ ap (λ (x : ℕ). digit (suc i) m + x) (sym (is_other 0 (suc i) (λ e. absurd (omega arith)))))))
digit_set (suc p) zero m h =
    let k = 2 ^ p in
    let same : (m + 2 * k) % 2 ≡ m % 2 = omega arith in
    ap (λ (x : ℕ). digit 0 (m + x)) (twice p) ∙ (first_digit (m + 2 * k) ∙ (same ∙ (sym (first_digit m)
    ∙ (omega arith ∙ ap (λ (x : ℕ). digit 0 m + x) (sym (is_other (suc p) 0 (λ e. absurd (omega arith))))))))
digit_set (suc p) (suc i) m h =
    let k = 2 ^ p in
    let half : (m + 2 * k) / 2 ≡ m / 2 + k = omega arith in
    ap (λ (x : ℕ). digit (suc i) (m + x)) (twice p)
    ∙ (next_digit i (m + 2 * k)
    ∙ (ap (digit i) half
    ∙ (digit_set p i (m / 2) (sym (next_digit p m) ∙ h) ∙ (λ u. sym (next_digit i m) u + same_next p i u))))

pub power_most : (p k : ℕ) → p ≤ k → 2 ^ p ≤ 2 ^ k
power_most p zero l = let e : p ≡ 0 = omega arith in rw e (omega arith)
power_most p (suc k) l =
    elim (ℕ_discrete p (suc k)) [
      | yes e ↦ rw e (omega arith)
      | no d ↦ omega (arith, power_most p k (omega arith), twice k)
    ]

-- n digits stay n digits
pub digit_room : (p n m : ℕ) → p < n → m < 2 ^ n → digit p m ≡ 0 → m + 2 ^ p < 2 ^ n
digit_room p zero m l h e = absurd (omega arith)
digit_room zero (suc n) m l h e =
    let k = 2 ^ n in
    let even : m % 2 ≡ 0 = sym (first_digit m) ∙ e in
    rw (twice n) (omega (arith, rw (twice n) at h))
digit_room (suc p) (suc n) m l h e =
    let k = 2 ^ n in
    let q = 2 ^ p in
    let half : m / 2 < k = omega (arith, rw (twice n) at h) in
    rw (twice n, twice p) (omega (arith, digit_room p n (m / 2) (omega arith) half (sym (next_digit p m) ∙ e)))

-- a digit is 1 or 0
pub digit_two : (m : ℕ) → m % 2 ≢ 1 → m % 2 ≡ 0
digit_two m d = omega (arith, d)

pub digit_unset : (m p : ℕ) → eqb (digit p m) 1 ≡ false → digit p m ≡ 0
digit_unset m p e = digit_two (m / 2 ^ p) (eqb-false (digit p m) 1 e)

pub digit_zero : (i : ℕ) → digit i 0 ≡ 0
digit_zero i = ap (λ (x : ℕ). x % 2) (zero-div (2 ^ i))
