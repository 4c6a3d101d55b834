-- A FILE IS THE LAYOUT OF ITS BODIES: bytes past rows 1 and 2 (11, 12; 21, 22) are `file_of` of the bodies that their contents name.
-- Assumes nothing.
use Prim.Native.Nat.{ℕ, ◌+◌, ◌*◌, ◌<◌}
use mathlib.Core.Path.{◌≡◌, sym, ap, ◌∙◌}
use mathlib.Core.List.{List, [], ◌++◌, map}
use native.Mathlib.Omega.{arith}
use native.Mathlib.Nat.{mul_comm, zero-add}
use lib.ListN.{length, get_or, take, drop, length-map, get_or-map}
use lib.Seq.{take-add, drop-drop, take-length}
use Rattle.mathematics.specs.Below.{sum_below, join_below}
use Rattle.mathematics.proofs.Below.{sum_ext, sum_const}
use Rattle.mathematics.proofs.Join.{join_ext, join_cuts}
use Rattle.numbers.specs.Number.{Bytes, number_at, digits, part}
use Rattle.numbers.proofs.Number.{digits_number}
use Rattle.numbers.proofs.Store.{part_length}
use Rattle.numbers.proofs.ByteLists.{bytes_append, bytes_join, bytes_digits}
use Rattle.contents.specs.Contents.{entry_at, entry, offset, extent}
use Rattle.contents.specs.File.{start, entry_bytes, contents_bytes, file_of}
use Rattle.contents.proofs.Facts.{Headed, Placed, offset_sum, total, fits}

-- two parts, the second where the first ends
part_add : (s : List ℕ) (at m n : ℕ) → part s at (m + n) ≡ part s at m ++ part s (at + m) n
part_add s at m n = take-add m n (drop at s) ∙ ap (λ (x : List ℕ). part s at m ++ take n x) (drop-drop m at s)

part_three : (s : List ℕ) (at l m n : ℕ) → part s at l ++ (part s (at + l) m ++ part s (at + (l + m)) n) ≡ part s at (l + (m + n))
part_three s at l m n =
    let e : at + l + m ≡ at + (l + m) = omega arith in
    rw (part_add s at l (m + n), part_add s (at + l) m n, e)

-- the length of body i, off the list of lengths
pub body_length : (bodies : List (List ℕ)) (i : ℕ) → get_or (map length bodies) i 0 ≡ length (get_or bodies i [])
body_length bodies i = get_or-map length bodies i []

module _ (s : List ℕ) (kind first count : ℕ) (b : Bytes s) (h : Headed s kind first count) (p : Placed s count) (bodies : List (List ℕ))
    (e : length bodies ≡ count) (same : (i : ℕ) → i < count → get_or bodies i [] ≡ part s (offset s i) (extent s i)) where
  abbrev L : List ℕ
  L = map length bodies

  len : length L ≡ count
  len = length-map bodies length ∙ e

  extents : (i : ℕ) → i < count → get_or L i 0 ≡ extent s i
  extents i l = body_length bodies i ∙ (ap length (same i l) ∙ part_length s (offset s i) (extent s i) (fits s count p i l))

  starts : (i : ℕ) → i < count → start L i ≡ offset s i
  unfolding start
  starts i l =
      let m : sum_below i (λ j. get_or L j 0) ≡ sum_below i (extent s) = sum_ext i _ _ (λ j k. extents j (omega arith)) in
      omega (arith, len, offset_sum s count p i l)

  byte : (at v : ℕ) → at < 2 + 9 * count → get_or s at 0 ≡ v → digits 1 v ≡ part s at 1
  byte at v l q =
      let one : number_at 1 s at ≡ v = omega arith in
      ap (digits 1) (sym one) ∙ digits_number 1 s at b (omega (arith, h.long))

  entry_part : (i : ℕ) → i < count → entry_bytes first L i ≡ part s (2 + 9 * i) 9
  unfolding entry_bytes entry entry_at
  entry_part i l =
      let at = 2 + 9 * i in
      let n : digits 1 (first + i) ≡ part s at 1 = byte at (first + i) (omega arith) (h.numbers i l) in
      let o : digits 4 (start L i) ≡ part s (at + 1) 4 =
      ap (digits 4) (starts i l) ∙ digits_number 4 s (at + 1) b (omega (arith, h.long)) in
      let x : digits 4 (get_or L i 0) ≡ part s (at + 5) 4 =
      ap (digits 4) (extents i l) ∙ digits_number 4 s (at + 5) b (omega (arith, h.long)) in
      (λ u. n u ++ (o u ++ x u)) ∙ part_three s at 1 4 4

  entries : join_below (length L) (entry_bytes first L) ≡ part s 2 (9 * count)
  entries =
      ap (λ (n : ℕ). join_below n (entry_bytes first L)) len
      ∙ (join_ext count _ _ (λ i l. entry_part i l ∙ ap (λ (x : ℕ). part s (2 + x) 9) (mul_comm 9 i ∙ sym (sum_const i 9)))
      ∙ (join_cuts count (λ i. 9) s 2 ∙ ap (part s 2) (sum_const count 9 ∙ mul_comm count 9)))

  contents : contents_bytes kind first L ≡ part s 0 (2 + 9 * count)
  unfolding contents_bytes
  contents =
      let k : digits 1 kind ≡ part s 0 1 = byte 0 kind (omega arith) h.kinds in
      let n : digits 1 (length L) ≡ part s 1 1 = byte 1 (length L) (omega arith) (h.counts ∙ sym len) in
      let m : 1 + (1 + 9 * count) ≡ 2 + 9 * count = omega arith in
      (λ u. k u ++ (n u ++ entries u)) ∙ (part_three s 0 1 1 (9 * count) ∙ ap (part s 0) m)

  all : join_below (length bodies) (λ i. get_or bodies i []) ≡ part s (2 + 9 * count) (sum_below count (extent s))
  all =
      ap (λ (n : ℕ). join_below n (λ i. get_or bodies i [])) e
      ∙ (join_ext count _ _ (λ i l. same i l ∙ ap (λ (x : ℕ). part s x (extent s i)) (offset_sum s count p i l))
      ∙ join_cuts count (extent s) s (2 + 9 * count))

  pub file_is_layout : s ≡ file_of kind first bodies
  unfolding file_of
  file_is_layout =
      let both = part_add s 0 (2 + 9 * count) (sum_below count (extent s)) in
      sym ((λ u. contents u ++ all u) ∙ (sym (rw (zero-add (2 + 9 * count)) at both)
      ∙ (ap (part s 0) (total s count p) ∙ take-length s)))

-- a file of bodies that are bytes is a list of bytes
entry_bytes_lem : (first : ℕ) (lengths : List ℕ) (i : ℕ) → Bytes (entry_bytes first lengths i)
unfolding entry_bytes
entry_bytes_lem first lengths i =
    let o = digits 4 (start lengths i) in
    let x = digits 4 (get_or lengths i 0) in
    bytes_append (digits 1 (first + i)) (o ++ x) (bytes_digits 1 (first + i))
    (bytes_append o x (bytes_digits 4 (start lengths i)) (bytes_digits 4 (get_or lengths i 0)))

contents_bytes_lem : (kind first : ℕ) (lengths : List ℕ) → Bytes (contents_bytes kind first lengths)
unfolding contents_bytes
contents_bytes_lem kind first lengths =
    let n = length lengths in
    let e = join_below n (entry_bytes first lengths) in
    bytes_append (digits 1 kind) (digits 1 n ++ e) (bytes_digits 1 kind)
    (bytes_append (digits 1 n) e (bytes_digits 1 n) (bytes_join n (entry_bytes first lengths) (entry_bytes_lem first lengths)))

pub file_bytes : (kind first : ℕ) (bodies : List (List ℕ)) → ((i : ℕ) → Bytes (get_or bodies i [])) → Bytes (file_of kind first bodies)
unfolding file_of
file_bytes kind first bodies h =
    bytes_append (contents_bytes kind first (map length bodies)) (join_below (length bodies) (λ i. get_or bodies i []))
    (contents_bytes_lem kind first (map length bodies)) (bytes_join (length bodies) (λ i. get_or bodies i []) h)
