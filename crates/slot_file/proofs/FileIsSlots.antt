-- A LAYOUT OF SLOTS READ BACK: numbers that fit their sections, laid out by `slot_file`, pass rows 21 to 24 and are read again.
-- Assumes nothing.
use Prim.Native.Nat.{ℕ, zero, suc, ◌+◌, ◌*◌, ◌^◌, ◌≤◌, ◌<◌}
use mathlib.Core.Path.{◌≡◌, sym, ap, ◌∙◌}
use mathlib.Core.Bool.{true}
use mathlib.Core.List.{List, [], ◌∷◌, ◌++◌, map}
use native.Mathlib.Omega.{arith}
use native.Mathlib.Nat.{add-zero, mul_comm, mul-le-mul}
use lib.ListN.{length, get_or}
use lib.Seq.{ext_get_or}
use Rattle.mathematics.specs.Below.{sum_below}
use Rattle.mathematics.proofs.Below.{sum_ext, sum_mul, sum_mono, sum_const}
use Rattle.mathematics.proofs.Join.{join_length}
use Rattle.numbers.specs.Number.{Bytes, digits, part}
use Rattle.numbers.proofs.Number.{encode_length, number_digits}
use Rattle.numbers.proofs.Store.{part_part, join_at}
use Rattle.numbers.proofs.ByteLists.{bytes_none, bytes_append, bytes_join, bytes_digits, bytes_encode}
use Rattle.contents.specs.Contents.{offset, extent, sized}
use Rattle.contents.specs.File.{start, Listable}
use Rattle.contents.proofs.Facts.{at_sized}
use Rattle.contents.proofs.FileWritten as laid
use Rattle.contents.proofs.FileLayout as layout
use Rattle.sections.specs.declared.Shape.{Shape}
use Rattle.std.specs.Prelude.{Ok}
use Rattle.sections.proofs.Places.{byte_most}
use Rattle.sections.proofs.Layouts.{one_row}
use Rattle.sections.proofs.Tables.{section_at, cube_at}
use Rattle.sections.proofs.Bodies.{cube_length, cube_bytes}
use Rattle.slot_file.specs.Slots.{Slot, no_slot, Slots, slot_count, slot_at, slots_before, slots_of, SameSlots, SlotsFit}
use Rattle.slot_file.specs.Form.{slot_lengths, slots_in_range, slot_form}
use Rattle.slot_file.specs.File.{slot_bytes, slot_bodies, slot_file}
use Rattle.slot_file.proofs.SlotBytes.{bytes_of, slot_join, bytes_length}
use Rattle.slot_file.proofs.SlotPlaces.{slot_listable}
use Rattle.slot_file.proofs.SlotReads.{week_length, week_slot, formed_range}

-- the slot whose bytes stand at its place
slot_read : (s : List ℕ) (j : ℕ) (x : Slot) → part s (offset s 1 + 3 * j) 3 ≡ bytes_of x → x.product < 256 → x.minutes < 2 ^ 16 → slot_at s j ≡ x
unfolding slot_at
slot_read s j x e p m =
    let at = offset s 1 + 3 * j in
    let first : part s at 1 ≡ digits 1 x.product =
    rw (add-zero at) at (sym (part_part s at 0 1 3 (omega arith)) ∙ ap (λ (l : List ℕ). part l 0 1) e) in
    let rest : part s (at + 1) 2 ≡ digits 2 x.minutes = sym (part_part s at 1 2 3 (omega arith)) ∙ ap (λ (l : List ℕ). part l 1 2) e in
    let a = number_digits 1 s at x.product first p in
    let b = number_digits 2 s (at + 1) x.minutes rest m in
    λ u. record { product = a u; minutes = b u }

module _ (f : Shape) (x : Slots) where
  abbrev F : List ℕ
  F = slot_file f x

  abbrev count : ℕ → ℕ
  count w = length (x.line.week w)

  abbrev total : ℕ
  total = sum_below f.weeks count

  slots_length : (n : ℕ) → sum_below n (λ w. length (slot_bytes (x.line.week w))) ≡ 3 * sum_below n count
  slots_length n = sum_ext n _ (λ w. count w * 3) (λ w l. bytes_length (x.line.week w)) ∙ (sum_mul n count 3 ∙ mul_comm (sum_below n count) 3)

  -- the lengths of the bodies are those of row 23
  pub body_lengths : map length (slot_bodies f x) ≡ slot_lengths f total
  unfolding slot_bodies
  body_lengths =
      let a = encode_length 1 f.weeks count ∙ one_row 1 f.weeks in
      let b = join_length f.weeks (λ w. slot_bytes (x.line.week w)) ∙ (slots_length f.weeks ∙ one_row 3 total) in
      let d = cube_length 4 f.customers f.products f.weeks x.sales in
      λ u. a u ∷ b u ∷ d u ∷ []

  pub file_length : length F ≡ start (slot_lengths f total) 3
  unfolding slot_file
  file_length = laid.file_length 3 41 (slot_bodies f x) ∙ ap (λ (l : List ℕ). start l (length l)) body_lengths

  module _ (small : (f.products < 256) × (f.customers < 256) × (f.weeks < 256)) (h : SlotsFit f x) where
    -- a week's count is a byte
    count_byte : (w : ℕ) → w < f.weeks → count w ≤ 255
    count_byte w l = omega (arith, (h.formed w l).few, small.0)

    few : total ≤ 65025
    few = omega (arith, sum_mono f.weeks count (λ w. 255) count_byte, sum_const f.weeks 255, small.2)

    listable : Listable 41 (map length (slot_bodies f x))
    listable =
        rw body_lengths
        (slot_listable f total few small.2 (mul-le-mul (mul-le-mul (byte_most small.1) (byte_most small.0)) (byte_most small.2)))

    extents : (i : ℕ) → i < 3 → extent F i ≡ get_or (slot_lengths f total) i 0
    unfolding slot_file slot_bodies
    extents i l = laid.extent_is 3 41 (slot_bodies f x) (omega arith) listable i l ∙ ap (λ (n : List ℕ). get_or n i 0) body_lengths

    body : (i : ℕ) → i < 3 → part F (offset F i) (extent F i) ≡ get_or (slot_bodies f x) i []
    unfolding slot_file slot_bodies
    body i l = laid.file_body 3 41 (slot_bodies f x) (omega arith) listable i l

    -- ---- sections 41 and 42
    count_at : (w : ℕ) → w < f.weeks → slot_count F w ≡ count w
    unfolding slot_count slot_bodies
    count_at w l =
        section_at 1 F 0 f.weeks count (extents 0 (omega arith) ∙ sym (one_row 1 f.weeks)) (body 0 (omega arith)) w l
        (omega (arith, count_byte w l))

    before_at : (w : ℕ) → w ≤ f.weeks → slots_before F w ≡ sum_below w count
    unfolding slots_before
    before_at w l = sum_ext w (slot_count F) count (λ i m. count_at i (omega arith))

    -- the bytes of week w, and of its slot k
    week_part : (w : ℕ) → w < f.weeks → part F (offset F 1 + 3 * sum_below w count) (count w * 3) ≡ slot_bytes (x.line.week w)
    unfolding slot_bodies
    week_part w l =
        let there = join_at f.weeks (λ i. slot_bytes (x.line.week i)) F (offset F 1) (extent F 1)
        (slots_length f.weeks ∙ (one_row 3 total ∙ sym (extents 1 (omega arith)))) (body 1 (omega arith)) w l in
        rw (slots_length w, bytes_length (x.line.week w)) at there

    slot_part : (w k : ℕ) → w < f.weeks → k < count w
        → part F (offset F 1 + 3 * (sum_below w count + k)) 3 ≡ bytes_of (get_or (x.line.week w) k no_slot)
    slot_part w k l m =
        let at = offset F 1 + 3 * sum_below w count in
        let threes : (n : ℕ) → sum_below n (λ i. 3) ≡ n * 3 = λ n. sum_const n 3 in
        let there = join_at (count w) (λ i. bytes_of (get_or (x.line.week w) i no_slot)) F at (count w * 3) (threes (count w))
        (week_part w l ∙ slot_join (x.line.week w)) k m in
        let e : at + sum_below k (λ i. 3) ≡ offset F 1 + 3 * (sum_below w count + k) = omega (arith, threes k) in
        rw e at there

    slot_at_lem : (w k : ℕ) → w < f.weeks → k < count w → slot_at F (slots_before F w + k) ≡ get_or (x.line.week w) k no_slot
    slot_at_lem w k l m =
        rw (before_at w (omega arith))
        (slot_read F (sum_below w count + k) (get_or (x.line.week w) k no_slot) (slot_part w k l m) (omega (arith, (h.formed w l).product k m, small.0))
        (h.minutes w k l m))

    week_at : (w : ℕ) → w < f.weeks → (slots_of f F).line.week w ≡ x.line.week w
    week_at w l =
        let n = count_at w l in
        ext_get_or no_slot _ (x.line.week w) (week_length f F w ∙ n)
        (λ k m. let d : k < count w = omega (arith, week_length f F w) in week_slot f F w k no_slot (omega arith) ∙ slot_at_lem w k l d)

    pub file_slots : SameSlots f (slots_of f F) x
    unfolding slots_of slot_bodies
    file_slots =
        record {
          week = week_at;
          sales = λ c i w p q r.
              cube_at 4 F 2 f.customers f.products f.weeks x.sales (extents 2 (omega arith)) (body 2 (omega arith))
              c i w p q r (h.sales c i w p q r);
        }

    -- ---- rows 21 to 24
    in_range_lem : slots_in_range F f ≡ true
    in_range_lem = formed_range f F (λ w l. rw (week_at w l) (h.formed w l))

    sizes : sized F (slot_lengths f (slots_before F f.weeks)) ≡ true
    sizes = rw (before_at f.weeks (omega arith)) (at_sized F (slot_lengths f total) (λ i l. extents i l))

    pub file_good : slot_form f F ≡ Ok f
    unfolding slot_form slot_file slot_bodies
    file_good =
        let heads = laid.file_headed 3 41 (slot_bodies f x) (omega arith) listable in
        let lies = laid.file_placed 3 41 (slot_bodies f x) (omega arith) listable in
        rw (heads, lies, sizes, in_range_lem)

-- the file is a list of bytes
slots_bytes : (xs : List Slot) → Bytes (slot_bytes xs)
slots_bytes [] = bytes_none
slots_bytes (x ∷ xs) =
    let m = digits 2 x.minutes in
    bytes_append (digits 1 x.product) (m ++ slot_bytes xs) (bytes_digits 1 x.product)
    (bytes_append m (slot_bytes xs) (bytes_digits 2 x.minutes) (slots_bytes xs))

bodies_bytes : (f : Shape) (x : Slots) (i : ℕ) → Bytes (get_or (slot_bodies f x) i [])
unfolding slot_bodies
bodies_bytes f x zero = bytes_encode 1 f.weeks (λ w. length (x.line.week w))
bodies_bytes f x (suc zero) = bytes_join f.weeks (λ w. slot_bytes (x.line.week w)) (λ w. slots_bytes (x.line.week w))
bodies_bytes f x (suc (suc zero)) = cube_bytes 4 f.customers f.products f.weeks x.sales
bodies_bytes f x (suc (suc (suc i))) = bytes_none

pub file_bytes : (f : Shape) (x : Slots) → Bytes (slot_file f x)
unfolding slot_file
file_bytes f x = layout.file_bytes 3 41 (slot_bodies f x) (bodies_bytes f x)
