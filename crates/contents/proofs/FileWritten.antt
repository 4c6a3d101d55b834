-- A LAYOUT READ BACK: the bytes that `file_of` lays out pass the rows on their contents, and each body is found where they name it.
-- Assumes nothing.
use Prim.Native.Nat.{ℕ, zero, suc, ◌+◌, ◌*◌, ◌^◌, ◌≤◌, ◌<◌}
use mathlib.Core.Path.{◌≡◌, refl, sym, ap, ◌∙◌}
use mathlib.Core.Bool.{true}
use mathlib.Core.List.{List, [], ◌++◌, map, append-nil}
use native.Mathlib.Omega.{arith}
use native.Mathlib.Numerals.{add-one}
use native.Mathlib.Nat.{add-zero}
use lib.ListN.{length, get_or, length-append, length-map}
use Rattle.mathematics.specs.Below.{sum_below, join_below}
use Rattle.mathematics.proofs.Below.{sum_ext}
use Rattle.mathematics.proofs.Join.{join_length, join_part}
use Rattle.numbers.specs.Number.{number_at, digits, part}
use Rattle.numbers.proofs.Number.{number_digits}
use Rattle.numbers.proofs.Store.{part_part, part_after}
use Rattle.contents.specs.Contents.{entry_at, entry, offset, extent, headed, edge, placed, sized}
use Rattle.contents.specs.File.{start, entry_bytes, contents_bytes, file_of, Listable}
use Rattle.contents.proofs.Entries.{entry_length, entries_place, entries_length, start_zero, start_next, start_below}
use Rattle.contents.proofs.Facts.{facts_headed, facts_placed, at_sized}
use Rattle.contents.proofs.FileLayout.{body_length}

module _ (kind first : ℕ) (bodies : List (List ℕ)) where
  abbrev F : List ℕ
  F = file_of kind first bodies

  abbrev L : List ℕ
  L = map length bodies

  abbrev count : ℕ
  count = length bodies

  pub listed : length L ≡ count
  listed = length-map bodies length

  pub contents_length : length (contents_bytes kind first L) ≡ 2 + 9 * count
  unfolding contents_bytes
  contents_length = omega (arith, entries_length first L (length L), listed)

  -- the file's length
  pub file_length : length F ≡ start L (length L)
  unfolding file_of start
  file_length =
      let all : length (join_below count (λ i. get_or bodies i [])) ≡ sum_below count (λ i. length (get_or bodies i [])) = join_length count _ in
      let same : sum_below count (λ j. get_or L j 0) ≡ sum_below count (λ i. length (get_or bodies i [])) = sum_ext count _ _ (λ i l. body_length bodies i) in
      let n : sum_below (length L) (λ j. get_or L j 0) ≡ sum_below count (λ j. get_or L j 0) = ap (λ (x : ℕ). sum_below x (λ j. get_or L j 0)) listed in
      omega (arith, length-append (contents_bytes kind first L) (join_below count (λ i. get_or bodies i [])), contents_length, listed)

  -- entry i's bytes stand at its place
  entry_part : (i : ℕ) → i < count → part F (2 + 9 * i) 9 ≡ entry_bytes first L i
  unfolding file_of contents_bytes
  entry_part i l =
      let E = join_below (length L) (entry_bytes first L) in
      let J = join_below count (λ j. get_or bodies j []) in
      let there = join_part (length L) (entry_bytes first L) J i (omega (arith, listed)) in
      part_after (digits 1 kind ++ digits 1 (length L)) (E ++ J) (9 * i) 9 ∙ rw (entry_length first L i, entries_place first L i) at there

  -- body i's bytes stand at its start
  body_part : (i : ℕ) → i < count → part F (start L i) (get_or L i 0) ≡ get_or bodies i []
  unfolding file_of start
  body_part i l =
      let J = join_below count (λ j. get_or bodies j []) in
      let there = join_part count (λ j. get_or bodies j []) [] i l in
      let before = sum_below i (λ j. length (get_or bodies j [])) in
      let sums : sum_below i (λ j. get_or L j 0) ≡ before = sum_ext i _ _ (λ j k. body_length bodies j) in
      let e : start L i ≡ length (contents_bytes kind first L) + before = omega (arith, contents_length, listed) in
      ap (λ (x : ℕ). part F x (get_or L i 0)) e
      ∙ (part_after (contents_bytes kind first L) J before (get_or L i 0)
      ∙ (ap (part J before) (body_length bodies i) ∙ rw (append-nil J) at there))

  module _ (small : kind < 256) (r : Listable first L) where
    room : (i : ℕ) → i < count → start L i + get_or L i 0 < 2 ^ 32
    room i l = omega (arith, start_next L i, start_below L (i + 1) (omega (arith, listed)), r.offsets)

    -- the number of k bytes, a bytes into entry i, is the one whose bytes stand there
    field : (i a k v : ℕ) → i < count → a + k ≤ 9 → part (entry_bytes first L i) a k ≡ digits k v → v < 256 ^ k
        → number_at k F (2 + 9 * i + a) ≡ v
    field i a k v l h e b =
        number_digits k F (2 + 9 * i + a) v
        (sym (part_part F (2 + 9 * i) a k 9 h) ∙ (ap (λ (x : List ℕ). part x a k) (entry_part i l) ∙ e)) b

    pub offset_is : (i : ℕ) → i < count → offset F i ≡ start L i
    unfolding entry entry_at entry_bytes
    offset_is i l = field i 1 4 (start L i) l (omega arith) refl (omega (arith, room i l))

    pub extent_is : (i : ℕ) → i < count → extent F i ≡ get_or L i 0
    unfolding entry entry_at entry_bytes
    extent_is i l = field i 5 4 (get_or L i 0) l (omega arith) refl (omega (arith, room i l))

    number_is : (i : ℕ) → i < count → (entry F i).number ≡ first + i
    unfolding entry entry_at entry_bytes
    number_is i l =
        let n = field i 0 1 (first + i) l (omega arith) refl (omega (arith, r.numbers, listed)) in
        let byte : get_or F (2 + 9 * i) 0 ≡ first + i = omega (arith, rw (add-zero (2 + 9 * i)) at n) in
        byte

    edge_is : (i : ℕ) → i ≤ count → edge F count i ≡ start L i
    edge_is zero l = omega (arith, start_zero L, listed)
    edge_is (suc i) l = omega (arith, offset_is i l, extent_is i l, start_next L i, add-one i, ap (start L) (add-one i))

    pub file_headed : headed F kind first count ≡ true
    unfolding file_of contents_bytes
    file_headed =
        facts_headed F kind first count (record {
          long = omega (arith, length-append (contents_bytes kind first L) (join_below count (λ i. get_or bodies i [])), contents_length);
          kinds = omega arith;
          counts = omega (arith, listed, r.numbers);
          numbers = number_is;
        })

    pub file_placed : placed F count ≡ true
    file_placed =
        facts_placed F count (record {
          begins = λ i l. offset_is i l ∙ sym (edge_is i (omega arith));
          ends = edge_is count (omega arith) ∙ (ap (start L) (sym listed) ∙ sym file_length);
        })

    pub file_sized : sized F L ≡ true
    file_sized = at_sized F L (λ i l. extent_is i (omega (arith, listed)))

    -- each body is where the contents say
    pub file_body : (i : ℕ) → i < count → part F (offset F i) (extent F i) ≡ get_or bodies i []
    file_body i l = (λ u. part F (offset_is i l u) (extent_is i l u)) ∙ body_part i l
