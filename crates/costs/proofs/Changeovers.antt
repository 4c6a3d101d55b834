-- Laws of what is mounted, and of the lookup of a changeover. Assumes nothing.
use Prim.Native.Nat.{ℕ, ◌≤◌, ◌<◌}
use Prim.{tt}
use mathlib.Core.Path.{◌≡◌, refl}
use mathlib.Core.Logic.{◌⊎◌, inl, inr}
use mathlib.Core.Bool.{Bool, true, false, cond}
use lib.Dec.{eqb}
use borrow.Author.Tests.{eqb-false, ne_eqb}
use native.Mathlib.Omega.{arith}
use Rattle.std.specs.Prelude.{None, Some}
use Rattle.sections.specs.Limits.{most_products, nothing_mounted}
use Rattle.plant_file.specs.Plant.{LinePlant}
use Rattle.plant_file.specs.Ranges.{LineRanges}
use Rattle.costs.specs.Mounted.{Mounted, mounted_below, opening_mounted, mounted_number}
use Rattle.costs.specs.Changeover.{changeover_between, changeover_to}

-- it takes at most what the table's entries do
pub between_most : (N most : ℕ) (table : ℕ → ℕ → ℕ) → ((i j : ℕ) → i < N → j < N → table i j ≤ most) → (i j : ℕ) → i < N → j < N
    → changeover_between table i j ≤ most
unfolding changeover_between
between_most N most table h = h

-- what is mounted, by its number
pub mounted_at_lem : (N : ℕ) {m : Mounted} {q r : ℕ} → mounted_below N m → m ≡ Some q → r ≡ q → r < N
mounted_at_lem N {m} {q} {r} h e g = let l : q < N = rw e at h in omega arith

pub to_most : (N most : ℕ) (table : ℕ → ℕ → ℕ) → ((i j : ℕ) → i < N → j < N → table i j ≤ most) → (m : Mounted) (p : ℕ) → mounted_below N m → p < N
    → changeover_to table m p ≤ most
to_most N most table h None p a b = omega arith
to_most N most table h (Some q) p a b = between_most N most table h q p a b

-- what is mounted at first is a product
pub opening_below : (N : ℕ) (l : LinePlant) → LineRanges N l → mounted_below N (opening_mounted l)
unfolding opening_mounted
opening_below N l r = go (eqb l.mounted nothing_mounted) refl r.mounted_known_lem
  where
    go : (t : Bool) → eqb l.mounted nothing_mounted ≡ t → (l.mounted < N) ⊎ (l.mounted ≡ nothing_mounted)
        → mounted_below N (cond t None (Some l.mounted))
    go true e h = tt
    go false e (inl h) = h
    go false e (inr h) = absurd (eqb-false l.mounted nothing_mounted e h)

-- what is mounted at first is read back from its number: no product has the number for none
pub opening_number : (N : ℕ) → N ≤ most_products → (l : LinePlant) (m : Mounted) → mounted_below N m → l.mounted ≡ mounted_number m
    → opening_mounted l ≡ m
unfolding opening_mounted
opening_number N few l None h e = rw e
opening_number N few l (Some p) h e = rw (e, ne_eqb p nothing_mounted (omega arith))

-- and that number is a product's, or that for none
pub number_known : (N : ℕ) (m : Mounted) → mounted_below N m → (mounted_number m < N) ⊎ (mounted_number m ≡ nothing_mounted)
number_known N None h = inr refl
number_known N (Some p) h = inl h
