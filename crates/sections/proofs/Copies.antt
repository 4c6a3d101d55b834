-- Bytes that are copied one by one. Assumes nothing.
use Prim.Native.Nat.{ℕ, suc, ◌+◌, ◌<◌}
use mathlib.Core.Path.{◌≡◌, sym, ap, ◌∙◌}
use mathlib.Core.List.{List, [], ◌∷◌, ◌++◌}
use native.Mathlib.Omega.{arith}
use native.Mathlib.Numerals.{add-one}
use lib.ListN.{length, get_or, drop, set, length-drop}
use lib.Seq.{sets-eq, take-suc, get_or-drop}
use Rattle.numbers.specs.Number.{part, store}
use Rattle.numbers.proofs.Store.{part_length, store_length, store_store}

-- a part with one byte more
part_more : (s : List ℕ) (from i : ℕ) → from + i < length s → part s from (suc i) ≡ part s from i ++ (get_or s (from + i) 0 ∷ [])
part_more s from i l =
    take-suc (drop from s) i 0 (rw length-drop (omega arith)) ∙ ap (λ (v : ℕ). part s from i ++ (v ∷ [])) (get_or-drop from s i 0)

-- one byte more copied
pub copied_more : (out s : List ℕ) (from i : ℕ) → i < length out → from + i < length s
    → set (store out 0 (part s from i)) i (get_or s (from + i) 0) ≡ store out 0 (part s from (i + 1))
copied_more out s from i l m =
    let v = get_or s (from + i) 0 in
    let long : length (part s from i) ≡ i = part_length s from i (omega arith) in
    let same : length (store out 0 (part s from i)) ≡ length out = store_length out 0 (part s from i) (omega (arith, long)) in
    let place : i ≡ 0 + length (part s from i) = omega (arith, long) in
    sets-eq (v ∷ []) (store out 0 (part s from i)) i (omega (arith, same))
    ∙ (ap (λ (j : ℕ). store (store out 0 (part s from i)) j (v ∷ [])) place
    ∙ (store_store out 0 (part s from i) (v ∷ []) (omega arith)
    ∙ (ap (store out 0) (sym (part_more s from i m)) ∙ ap (λ (j : ℕ). store out 0 (part s from j)) (sym (add-one i)))))
