-- Bytes of 0, and rows that are stored over them. Assumes nothing.
use Prim.Native.Nat.{ℕ, ◌+◌, ◌*◌, ◌-◌, ◌≤◌, ◌<◌}
use mathlib.Core.Path.{◌≡◌, sym, ap, ◌∙◌}
use mathlib.Core.List.{List, ◌++◌}
use native.Mathlib.Omega.{arith}
use lib.ListN.{length, get_or, take, drop, replicate, take-append-drop, length-take, length-drop, length-replicate, get_or-replicate}
use lib.Seq.{length-take-le, take_at, drop_at, get_or-take, get_or-drop, get_or-append-add, ext_get_or}
use borrow.Rule.Slice.PartMut.{mid_of}
use Rattle.numbers.specs.Number.{encode, store}
use Rattle.numbers.proofs.Store.{store_length, part_get_d}
use Rattle.plan_writing.specs.Ran.{Cleared}
use Rattle.plan_writing.proofs.Scatter.{zero_table}

-- zeros at the start may be thought stored there
cleared_zeros : (n : ℕ) (out : List ℕ) → Cleared n out → out ≡ store out 0 (replicate n 0)
cleared_zeros n out h =
    let size = length-take-le n out h.room in
    let zeros : take n out ≡ replicate n 0 =
    ext_get_or 0 (take n out) (replicate n 0) (size ∙ sym (length-replicate n 0))
    (λ i l. let m : i < n = omega arith in get_or-take n out i 0 m ∙ (h.zero i m ∙ sym (get_or-replicate n i 0 0 m))) in
    let rest : n ≡ 0 + length (replicate {A = ℕ} n 0) = omega (arith, length-replicate {A = ℕ} n 0) in
    sym (take-append-drop n out) ∙ (λ u. zeros u ++ drop (rest u) out)

pub cleared_table : (k n : ℕ) (out : List ℕ) → Cleared (k * n) out → out ≡ store out 0 (encode k n (λ j. 0))
cleared_table k n out h = cleared_zeros (k * n) out h ∙ ap (store out 0) (zero_table k n)

module _ (n : ℕ) (s : List ℕ) (l : n ≤ length s) where
  -- a stretch that is filled with zeros, before the rest
  pub zeros_stored : (filled : List ℕ) → filled ≡ replicate (length (take n s)) 0 → filled ++ drop n s ≡ store s 0 (replicate n 0)
  zeros_stored filled e =
      let size = length-take-le n s l in
      let rest : n ≡ 0 + length (replicate {A = ℕ} n 0) = omega (arith, length-replicate {A = ℕ} n 0) in
      λ u. (e ∙ ap (λ (m : ℕ). replicate {A = ℕ} m 0) size) u ++ drop (rest u) s

  zeros_cleared : Cleared n (store s 0 (replicate n 0))
  zeros_cleared =
      let size = length-replicate {A = ℕ} n 0 in
      let rest = drop (0 + length (replicate {A = ℕ} n 0)) s in
      record {
        room = omega (arith, size, store_length s 0 (replicate n 0) (omega (arith, size)));
        zero = λ i m. sym (get_or-take n (replicate n 0 ++ rest) i 0 m)
            ∙ (ap (λ (x : List ℕ). get_or x i 0) (take_at (replicate n 0) rest n size) ∙ get_or-replicate n i 0 0 m);
      }

  pub cleared_as : (out : List ℕ) → out ≡ store s 0 (replicate n 0) → Cleared n out
  cleared_as out e = rw e zeros_cleared

  -- stored over as many zeros, a list leaves none of them
  pub over_zeros : (b : List ℕ) → length b ≡ n → store (store s 0 (replicate n 0)) 0 b ≡ store s 0 b
  over_zeros b e =
      let size = length-replicate {A = ℕ} n 0 in
      let rest = drop (0 + length (replicate {A = ℕ} n 0)) s in
      let same : 0 + length (replicate {A = ℕ} n 0) ≡ 0 + length b = omega arith in
      ap (λ (x : List ℕ). b ++ x) (drop_at (replicate n 0) rest (0 + length b) (omega arith) ∙ ap (λ (x : ℕ). drop x s) same)

-- behind a list that is stored over the first zeros, those that follow are left
pub rest_cleared : (m n p : ℕ) (s b out : List ℕ) → Cleared m s → p + n ≤ m → length b ≡ p → out ≡ store s 0 b
    → Cleared n (mid_of p (length out - p) out)
rest_cleared m n p s b out h q e d =
    let size : length out ≡ length s = ap length d ∙ store_length s 0 b (omega (arith, h.room)) in
    record {
      room = simp (length-take, length-drop) (omega (arith, size, h.room));
      zero = λ i l.
          let there : get_or (store s 0 b) (length b + i) 0 ≡ get_or s (0 + length b + i) 0 =
          get_or-append-add b (drop (0 + length b) s) i 0 ∙ get_or-drop (0 + length b) s i 0 in
          let place : 0 + length b + i ≡ p + i = omega arith in
          part_get_d out p (length out - p) i (omega (arith, size, h.room))
          ∙ ((λ u. get_or (d u) (sym e u + i) 0) ∙ (there ∙ (ap (λ (x : ℕ). get_or s x 0) place ∙ h.zero (p + i) (omega arith))));
    }
