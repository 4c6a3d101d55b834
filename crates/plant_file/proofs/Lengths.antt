-- The lengths of a plant's bodies are small. Assumes nothing.
use Prim.Native.Nat.{◌*◌, ◌≤◌}
use mathlib.Core.Bool.{Bool, true, false, cond}
use mathlib.Core.List.{[], ◌∷◌}
use native.Mathlib.Omega.{arith}
use native.Mathlib.Nat.{mul-le-mul}
use Rattle.contents.specs.File.{start, Listable}
use Rattle.sections.specs.declared.Shape.{Shape}
use Rattle.sections.specs.Layout.{layout, lengths_of}
use Rattle.sections.proofs.Places.{Small, byte_most}
use Rattle.plant_file.specs.Kinds.{has_mounted}
use Rattle.plant_file.specs.Form.{layout_before, plant_lengths}

-- counts of a byte, multiplied
products : (f : Shape) → Small f
    → (f.products * f.products ≤ 65025) × (f.customers * f.products ≤ 65025) × (f.customers * f.products * f.weeks ≤ 16581375)
products f h =
    let n = byte_most h.0 in
    let c = mul-le-mul (byte_most h.1) n in
    (mul-le-mul n n, c, mul-le-mul c (byte_most h.2))

-- the contents of a plant have room for where its bodies begin
pub listable : (f : Shape) → Small f → Listable 1 (plant_lengths f)
unfolding start
listable f h = go (has_mounted f.kind)
  where
    go : (t : Bool) → Listable 1 (lengths_of (layout_before f (cond t (layout 1 1 2 ∷ []) [])))
    go true = let p = products f h in record { numbers = omega arith; offsets = omega arith }
    go false = let p = products f h in record { numbers = omega arith; offsets = omega arith }
