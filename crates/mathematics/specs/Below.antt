-- Sums, tests and lists over the numbers below a bound, and small tests. Assumes nothing.
use Rattle.std.specs.Prelude.{ℕ, zero, suc, ◌+◌, Bool, true, false, ◌&&◌, cond, List, [], ◌∷◌, ◌++◌, eqb, leb}

-- f 0 + .. + f (n - 1)
abbrev pub sum_below : ℕ → (ℕ → ℕ) → ℕ
sum_below zero f = 0
sum_below (suc n) f = sum_below n f + f n

-- p 0 and .. and p (n - 1)
abbrev pub all_below : ℕ → (ℕ → Bool) → Bool
all_below zero p = true
all_below (suc n) p = all_below n p && p n

-- the lists f 0, .., f (n - 1), end to end
abbrev pub join_below : {A : Type 0} → ℕ → (ℕ → List A) → List A
join_below zero f = []
join_below (suc n) f = join_below n f ++ f n

-- the list of f 0, .., f (n - 1)
abbrev pub list_below : {A : Type 0} → ℕ → (ℕ → A) → List A
list_below zero f = []
list_below (suc n) f = f 0 ∷ list_below n (λ k. f (suc k))

-- the least number below n with p, and n where there is none
abbrev pub first_below : ℕ → (ℕ → Bool) → ℕ
first_below zero p = zero
first_below (suc n) p = cond (p zero) zero (suc (first_below n (λ k. p (suc k))))

abbrev pub implies : Bool → Bool → Bool
implies true b = b
implies false b = true

-- lo ≤ x ≤ hi
abbrev pub within : ℕ → ℕ → ℕ → Bool
within lo hi x = leb lo x && leb x hi

-- 1 where the two numbers are equal, else 0
unfoldable pub is : ℕ → ℕ → ℕ
is a b = cond (eqb a b) 1 0
