-- What a call that has bytes to write returns and leaves: 51 and the output as it was, or their length and the bytes at its start.
-- Assumes nothing.
use Prim.Native.Nat.{ℕ, ◌≤◌, ◌<◌}
use mathlib.Core.Path.{◌≡◌, refl, sym, ap, ◌∙◌}
use mathlib.Core.Bool.{Bool, true, false}
use mathlib.Core.List.{List, ◌++◌, append-nil}
use native.Mathlib.Omega.{arith}
use native.Mathlib.Nat.{zero-add}
use lib.Dec.{leb}
use lib.ListN.{length, take, drop, length-append}
use lib.Seq.{take-append_seam}
use borrow.Author.Tests.{le-leb, lt-leb, leb-false}
use Rattle.std.proofs.lemmas.List.{take_all, drop_all}
use Rattle.std.specs.Result.{MatchResult, IsOkAnd}
use Rattle.numbers.specs.Number.{store}
use Rattle.std.specs.Prelude.{Err, Ok}
use Rattle.sections.specs.declared.Refusal.{Refusal}
use Rattle.calls.specs.Answer.{Written, Answer, bytes, refused, length_in, written_in, output_after}
use Rattle.sections.specs.declared.Refusal.TheVariants as refusal

module _ (b out : List ℕ) where
  pub too_short : length out < length b → (written_in (bytes b) out ≡ Err refusal.OutputLength) × (output_after (bytes b) out ≡ out)
  unfolding written_in output_after
  too_short h = let t = lt-leb (length b) (length out) h in (rw t, rw t)

  pub long_enough : length b ≤ length out → (written_in (bytes b) out ≡ Ok (length b)) × (output_after (bytes b) out ≡ b ++ drop (length b) out)
  unfolding written_in output_after
  long_enough h = let t = le-leb (length b) (length out) h in (rw t, rw t)

  -- the same, as the writers say it
  stored : length b ≤ length out → output_after (bytes b) out ≡ store out 0 b
  stored h = (long_enough h).1 ∙ ap (λ (n : ℕ). b ++ drop n out) (sym (zero-add (length b)))

-- where the output is too short and is left as it was, and as a writer leaves it
module _ (b out : List ℕ) {after : List ℕ} {r : Written} where
  pub short_as : length out < length b → (r ≡ Err refusal.OutputLength) × (after ≡ out) → (r ≡ written_in (bytes b) out) × (after ≡ output_after (bytes b) out)
  short_as l h = let e = too_short b out l in (h.0 ∙ sym e.0, h.1 ∙ sym e.1)

  pub written_as : {n : ℕ} → n ≡ length b → length b ≤ length out → (r ≡ Ok n) × (after ≡ store out 0 b)
      → (r ≡ written_in (bytes b) out) × (after ≡ output_after (bytes b) out)
  written_as s l h = (h.0 ∙ (ap Ok s ∙ sym (long_enough b out l).0), h.1 ∙ sym (stored b out l))

-- a refusal, which leaves the output as it was
pub refused_as : {a : Answer} {n : Refusal} {out after : List ℕ} {r : Written} → a ≡ refused n → (r ≡ Err n) × (after ≡ out)
    → (r ≡ written_in a out) × (after ≡ output_after a out)
unfolding written_in output_after
refused_as e h = (rw e h.0, rw e h.1)

-- ---- what another call has returned and left, which was lent the output and whose result is handed on
module _ {a b : Answer} {out lent : List ℕ} where
  pub result_on : {r s : Written} → s ≡ written_in a lent → b ≡ a → lent ≡ out → r ≡ s → r ≡ written_in b out
  result_on h e l d = d ∙ (h ∙ (λ u. written_in (sym e u) (l u)))

  pub output_on : {left after : List ℕ} → left ≡ output_after a lent → b ≡ a → lent ≡ out → after ≡ left → after ≡ output_after b out
  output_on h e l d = d ∙ (h ∙ (λ u. output_after (sym e u) (l u)))

-- A writer that is lent a part of the output, and a length that is mapped, as a caller may write it: the search takes these where a call is written so.
-- a part that is all of the output, before the call and after it
pub part_whole : (n : ℕ) (out : List ℕ) → length out ≤ n → take n out ≡ out
part_whole n out l = take_all n out l

pub part_left : (n : ℕ) (out left : List ℕ) → length out ≤ n → left ++ drop n out ≡ left
part_left n out left l = ap (λ (s : List ℕ). left ++ s) (drop_all n out l) ∙ append-nil left

-- a length that is mapped to itself
pub mapped_same : (r s : Written) → MatchResult s (λ n. IsOkAnd r (λ m. m ≡ n)) (λ n. r ≡ Err n) → r ≡ s
mapped_same (Ok m) (Ok n) h = ap Ok h
mapped_same (Err m) (Ok n) h = absurd h
mapped_same r (Err n) h = h

-- ---- back from what was returned
lengths : (t : Bool) (n m : ℕ) → length_in t n ≡ Ok m → (t ≡ true) × (n ≡ m)
lengths true n m e = (refl, cc)
lengths false n m e = absurd (let z : ◌≡◌ {A = ℕ} 0 1 = cc in omega arith)

numbers : (t : Bool) (n : ℕ) (m : Refusal) → length_in t n ≡ Err m → t ≡ false
numbers true n m e = absurd (let z : ◌≡◌ {A = ℕ} 0 1 = cc in omega arith)
numbers false n m e = refl

module _ (b out : List ℕ) where
  pub refused_short : (m : Refusal) → written_in (bytes b) out ≡ Err m → length out < length b
  unfolding written_in
  refused_short m e = leb-false (length b) (length out) (numbers (leb (length b) (length out)) (length b) m e)

  -- a length is that of the bytes, which are read back from the output
  pub written_back : (m : ℕ) → written_in (bytes b) out ≡ Ok m
      → (m ≡ length b) × (m ≤ length (output_after (bytes b) out)) × (take m (output_after (bytes b) out) ≡ b)
  unfolding written_in output_after
  written_back m e =
      let f = lengths (leb (length b) (length out)) (length b) m e in
      rw (f.0, ← f.1) (refl, rw (length-append b (drop (length b) out)) (omega arith), take-append_seam b (drop (length b) out))
