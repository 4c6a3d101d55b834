-- A file written section by section: the contents, then each body where the one before ends, give the file and leave what follows it.
-- Assumes nothing.
use Prim.Native.Nat.{ℕ, ◌+◌, ◌-◌, ◌≤◌}
use mathlib.Core.Path.{◌≡◌, refl, sym, ap, ◌∙◌}
use mathlib.Core.List.{List, [], ◌++◌, map, append_assoc, append-nil}
use native.Mathlib.Omega.{arith}
use native.Mathlib.Numerals.{add-one}
use native.Mathlib.Nat.{zero-add}
use lib.ListN.{length, get_or, length-append}
use borrow.Rule.Slice.PartMut.{mid_of, put_mid}
use Rattle.mathematics.specs.Below.{sum_below, join_below}
use Rattle.mathematics.proofs.Below.{sum_ext}
use Rattle.mathematics.proofs.Join.{join_length}
use Rattle.numbers.specs.Number.{store}
use Rattle.numbers.proofs.Store.{store_store, part_store}
use Rattle.contents.specs.File.{start, contents_bytes, file_of}
use Rattle.contents.proofs.FileLayout.{body_length}
use Rattle.contents.proofs.FileWritten.{listed, contents_length}

module _ (kind first : ℕ) (bodies : List (List ℕ)) where
  -- the contents and the first i bodies
  unfoldable pub first_bodies : ℕ → List ℕ
  first_bodies i = contents_bytes kind first (map length bodies) ++ join_below i (λ j. get_or bodies j [])

  first_length : (i : ℕ) → length (first_bodies i) ≡ start (map length bodies) i
  unfolding first_bodies start
  first_length i =
      let L = map length bodies in
      let sums : sum_below i (λ j. get_or L j 0) ≡ sum_below i (λ j. length (get_or bodies j [])) = sum_ext i _ _ (λ j l. body_length bodies j) in
      omega (
        arith,
        length-append (contents_bytes kind first L) (join_below i (λ j. get_or bodies j [])),
        contents_length kind first bodies,
        listed kind first bodies,
        join_length i (λ j. get_or bodies j []),
      )

  next : (i : ℕ) → first_bodies i ++ get_or bodies i [] ≡ first_bodies (i + 1)
  unfolding first_bodies
  next i = rw (add-one, append_assoc)

  -- the next body, stored where those before it end
  pub body_stored : (s : List ℕ) (i : ℕ)
      → store (store s 0 (first_bodies i)) (start (map length bodies) i) (get_or bodies i []) ≡ store s 0 (first_bodies (i + 1))
  body_stored s i =
      let e : start (map length bodies) i ≡ 0 + length (first_bodies i) = sym (zero-add (length (first_bodies i)) ∙ first_length i) in
      rw e (store_store s 0 (first_bodies i) (get_or bodies i []) (omega arith)) ∙ ap (store s 0) (next i)

  -- all of them: the file
  pub all_stored : first_bodies (length bodies) ≡ file_of kind first bodies
  unfolding first_bodies file_of
  all_stored = refl

  -- ---- as a writer does it, which knows the lengths
  module _ (lengths : List ℕ) (e : map length bodies ≡ lengths) where
    pub contents_first : contents_bytes kind first lengths ≡ first_bodies 0
    unfolding first_bodies
    contents_first = ap (contents_bytes kind first) (sym e) ∙ sym (append-nil (contents_bytes kind first (map length bodies)))

    -- the next body, stored at the start of the stretch that is lent
    pub stretch_stored : (s out : List ℕ) (place from : ℕ) → out ≡ store s 0 (first_bodies place) → from ≡ start lengths place → from ≤ length out
        → put_mid from (length out - from) out (store (mid_of from (length out - from) out) 0 (get_or bodies place []))
        ≡ store s 0 (first_bodies (place + 1))
    stretch_stored s out place from o d l =
        let there = d ∙ ap (λ (n : List ℕ). start n place) (sym e) in
        part_store out from (get_or bodies place []) l ∙ ((λ u. store (o u) (there u) (get_or bodies place [])) ∙ body_stored s place)
