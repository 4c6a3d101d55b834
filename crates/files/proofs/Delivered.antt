-- What a call that writes says lies within what it leaves. Assumes nothing.
use Prim.Native.Nat.{ℕ}
use mathlib.Core.Path.{◌≡◌, sym, ◌∙◌}
use mathlib.Core.List.{List}
use native.Mathlib.Omega.{arith}
use lib.ListN.{length}
use Rattle.calls.specs.Answer.{Written, Answer, bytes, refused, written_in, output_after}
use Rattle.calls.proofs.Output.{written_back}
use Rattle.files.specs.Within.{Within}

within : (answer : Answer) (out : List ℕ) → Within (written_in answer out) (length (output_after answer out))
unfolding written_in
within (bytes b) out n e = (written_back b out n e).1
within (refused m) out n e = absurd (let z : ◌≡◌ {A = ℕ} 0 1 = cc in omega arith)

pub delivered : (answer : Answer) (out after : List ℕ) (said : Written) → said ≡ written_in answer out → after ≡ output_after answer out
    → Within said (length after)
delivered answer out after said e l n h = rw l (within answer out n (sym e ∙ h))
