-- The lengths of a plan's bodies are small, and each section holds the numbers that its length has room for. Assumes nothing.
use Prim.Native.Nat.{ℕ, ◌+◌, ◌*◌, ◌<◌}
use mathlib.Core.Path.{◌≡◌, ap, ◌∙◌}
use mathlib.Core.List.{List}
use native.Mathlib.Omega.{arith}
use native.Mathlib.Nat.{mul-le-mul, zero-add}
use lib.ListN.{get_or}
use Rattle.numbers.specs.Number.{Width}
use Rattle.contents.specs.File.{start, Listable}
use Rattle.sections.specs.Section.{Holds, Laid}
use Rattle.sections.specs.declared.Shape.{Shape}
use Rattle.sections.proofs.Places.{Small, byte_most}
use Rattle.sections.proofs.Rows.{laid_holds}
use Rattle.plan_file.specs.Form.{plan_lengths}

-- the section in a place holds m numbers of k bytes, where its length says so
pub holds : (f : Shape) {s : List ℕ} → Laid s (plan_lengths f) → (place : ℕ) → place < 12 → {k m n : ℕ} → Width k
    → get_or (plan_lengths f) place 0 ≡ k * n → m ≡ n → Holds s place k (0 + m)
holds f z place l {k} {m} w e q =
    laid_holds z place l k (0 + m) w (omega (arith, e, ap (λ (x : ℕ). k * x) (zero-add m ∙ q)))

-- the contents of a plan have room for where its bodies begin
pub listable : (f : Shape) → Small f → Listable 21 (plan_lengths f)
unfolding start
listable f h =
    let n = byte_most h.0 in
    let w = byte_most h.2 in
    let a = mul-le-mul w n in
    let z = mul-le-mul a n in
    let s = mul-le-mul (mul-le-mul (byte_most h.1) n) w in
    record { numbers = omega arith; offsets = omega arith }
