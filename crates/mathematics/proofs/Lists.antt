-- Laws of the list of a function's values, and of runs of numbers one after the other. Assumes nothing.
use Prim.Native.Nat.{ℕ, zero, suc, ◌+◌, ◌*◌, ◌/◌, ◌%◌, ◌-◌, ◌<◌}
use mathlib.Core.Path.{◌≡◌, refl, ap}
use native.Mathlib.Omega.{arith}
use native.Mathlib.Decide.{dec_lt}
use native.Mathlib.Nat.{div-add-mod', div-lt_iff_lt-mul, mod-lt}
use lib.ListN.{length, get_or}
use Rattle.mathematics.specs.Below.{sum_below, list_below}
use Rattle.mathematics.proofs.Below.{sum_prefix}

module _ {A : Type 0} where
  pub list_length : (n : ℕ) (f : ℕ → A) → length (list_below n f) ≡ n
  list_length zero f = refl
  list_length (suc n) f = ap suc (list_length n (λ k. f (suc k)))

  pub list_at : (n : ℕ) (f : ℕ → A) (k : ℕ) (d : A) → k < n → get_or (list_below n f) k d ≡ f k
  list_at zero f k d l = absurd (omega arith)
  list_at (suc n) f zero d l = refl
  list_at (suc n) f (suc k) d l = list_at n (λ m. f (suc m)) k d (omega arith)

-- ---- runs of these counts, end to end
-- place k of run w is below their sum
pub run_below : (n : ℕ) (count : ℕ → ℕ) (w k : ℕ) → w < n → k < count w → sum_below w count + k < sum_below n count
run_below n count w k l h = omega (arith, sum_prefix n count (suc w) l)

-- every number below the sum is a place of a run
pub record Run (n : ℕ) (count : ℕ → ℕ) (j : ℕ) : Type 0 where
  pub which : ℕ
  pub place : ℕ
  pub known : which < n
  pub inside : place < count which
  pub stands : j ≡ sum_below which count + place

pub run_of : (n : ℕ) (count : ℕ → ℕ) (j : ℕ) → j < sum_below n count → Run n count j
run_of zero count j l = absurd (omega arith)
run_of (suc n) count j l = elim (dec_lt j (sum_below n count)) [
  | yes h ↦ (let r = run_of n count j h in record { which = r.which; place = r.place; known = omega arith; inside = r.inside; stands = r.stands })
  | no h ↦ record { which = n; place = j - sum_below n count; known = omega arith; inside = omega arith; stands = omega arith }
]

-- ---- a table row by row: what holds at each row and column holds at each place
pub flat_each : (P : ℕ → Type 0) (m n : ℕ) → ((i j : ℕ) → i < m → j < n → P (i * n + j)) → (q : ℕ) → q < m * n → P q
flat_each P m zero h q l = absurd (omega arith)
flat_each P m (suc n) h q l =
    let w = suc n in
    let there = h (q / w) (q % w) ((div-lt_iff_lt-mul (omega arith)).1 l) (mod-lt q (omega arith)) in
    rw (div-add-mod' q w) at there

pub flat_each3 : (P : ℕ → Type 0) (l m n : ℕ) → ((h i j : ℕ) → h < l → i < m → j < n → P ((h * m + i) * n + j))
    → (q : ℕ) → q < l * m * n → P q
flat_each3 P l m n f =
    flat_each P (l * m) n (λ q j a b. flat_each (λ x. P (x * n + j)) l m (λ h i d e. f h i j d e b) q a)
