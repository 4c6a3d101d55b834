-- Numbers of one byte in a section. Assumes nothing.
use Prim.Native.Nat.{ℕ, ◌+◌, ◌*◌}
use mathlib.Core.Path.{◌≡◌, ap}
use mathlib.Core.List.{List}
use native.Mathlib.Omega.{arith}
use lib.ListN.{get_or}
use Rattle.contents.specs.Contents.{offset, cell}

-- byte j of section i
pub byte_cell : (s : List ℕ) (i j at : ℕ) → at ≡ offset s i + j → get_or s at 0 ≡ cell 1 s i j
unfolding cell
byte_cell s i j at e =
    let p : at ≡ offset s i + 1 * j = omega arith in
    let q : get_or s at 0 ≡ get_or s (offset s i + 1 * j) 0 = ap (λ (x : ℕ). get_or s x 0) p in
    omega arith
