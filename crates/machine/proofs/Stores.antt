-- A loop that stores each cell anew: the list after one cell more. Assumes nothing.
use Prim.Native.Nat.{ℕ, ◌+◌}
use mathlib.Core.Path.{◌≡◌}
use mathlib.Core.List.{List}
use native.Mathlib.Omega.{arith}
use native.Mathlib.Nat.{zero-add}
use native.Mathlib.Numerals.{add-one}
use lib.ListN.{get_or, set}
use Rattle.machine.specs.State.{update_row}
use Rattle.machine.proofs.Flat.{row_past}

pub row_stored : (k v : ℕ) (f : ℕ → ℕ → ℕ) (l : List ℕ) → v ≡ f k (get_or l k 0) → set (update_row 0 k f l) k v ≡ update_row 0 (k + 1) f l
row_stored k v f l e = rw (add-one, zero-add, e)

-- the cells below k are stored anew
module _ (k : ℕ) (f : ℕ → ℕ → ℕ) (l m : List ℕ) (e : m ≡ update_row 0 k f l) where
  -- the next cell is as it was
  pub cell_next : get_or m k 0 ≡ get_or l k 0
  cell_next = rw e (row_past 0 k f l k (omega arith))

  pub cell_stored : (v : ℕ) → v ≡ f k (get_or l k 0) → set m k v ≡ update_row 0 (k + 1) f l
  cell_stored v h = rw e (row_stored k v f l h)
