-- A week's row of each table of the line, and what each of its slots stores there. Assumes nothing.
use Rattle.std.specs.Prelude.{ℕ, zero, suc, ◌*◌, ◌-◌, ◌/◌, ◌%◌, cond, List, [], ◌∷◌, get_or, eqb}
use Rattle.mathematics.specs.Order.{order_at, assigned_in, first_in, last_in, position_in, changeover_in}
use Rattle.slot_file.specs.Slots.{Slot}
use Rattle.std.specs.Prelude.{None, Some}
use Rattle.costs.specs.Mounted.{Mounted, is_mounted}
use Rattle.model.specs.RunTables.{minutes_of}

-- ---- E, F, L, Z, ZF and O: the products ps run, m is mounted before
-- number j of the row in a place, for N products
unfoldable pub mark_row : (N : ℕ) → Mounted → List ℕ → (place j : ℕ) → ℕ
mark_row N m ps place j =
    get_or
    (assigned_in ps j
    ∷ first_in ps j
    ∷ last_in ps j
    ∷ changeover_in ps (j / N) (j % N)
    ∷ (is_mounted m (j / N) * first_in ps (j % N))
    ∷ position_in ps j
    ∷ [])
    place 0

-- 1 where something is mounted
abbrev pub some_mounted : Mounted → ℕ
some_mounted None = 0
some_mounted (Some p) = 1

-- the slots that store something, of n: from one on (L: the last; Z: the second), up to another (F: the first; ZF: the first, where something
-- is mounted)
unfoldable pub marked_from : (n place : ℕ) → ℕ
marked_from n place = cond (eqb place 2) (n - 1) (cond (eqb place 3) 1 0)

unfoldable pub marked_to : Mounted → (n place : ℕ) → ℕ
marked_to m n place = cond (eqb place 1) 1 (cond (eqb place 4) (some_mounted m) n)

-- how far apart the rows for N products are: Z and ZF have one for each product that they lead from
unfoldable pub stride_in : (N place : ℕ) → ℕ
stride_in N place = cond (eqb place 3) N (cond (eqb place 4) N 0)

-- the product that the line comes from to slot k: what is mounted, or the slot before
abbrev pub product_of : Mounted → ℕ
product_of None = 0
product_of (Some p) = p

abbrev pub from_of : Mounted → List ℕ → ℕ → ℕ
from_of m ps zero = product_of m
from_of m ps (suc k) = order_at ps k

-- ---- T and P: minutes by a factor, 1 or the product's rate
abbrev pub factor_in : (rate : ℕ → ℕ) (place : ℕ) → ℕ → ℕ
factor_in rate place i = cond (eqb place 6) 1 (rate i)

abbrev pub amount_row : (rate : ℕ → ℕ) (place : ℕ) → List Slot → ℕ → ℕ
amount_row rate place xs j = factor_in rate place j * minutes_of xs j
