-- A SLOT FILE IS THE LAYOUT OF ITS NUMBERS: bytes that pass rows 21 to 24 are `slot_file` of the numbers that they hold. Assumes nothing.
use Prim.Native.Nat.{ℕ, zero, suc, ◌+◌, ◌*◌, ◌/◌, ◌%◌, ◌<◌}
use mathlib.Core.Path.{◌≡◌, refl, sym, ap, ◌∙◌}
use mathlib.Core.List.{List, []}
use native.Mathlib.Omega.{arith}
use lib.ListN.{length, get_or}
use Rattle.mathematics.specs.Below.{join_below}
use Rattle.mathematics.proofs.Join.{join_ext, join_runs}
use Rattle.numbers.specs.Number.{Bytes, number_at, digits, encode, part}
use Rattle.numbers.proofs.Number.{encode_ext, encode_numbers}
use Rattle.contents.specs.Contents.{offset, extent, cell}
use Rattle.contents.proofs.Facts.{placed_facts}
use Rattle.contents.proofs.FileLayout.{file_is_layout}
use Rattle.sections.specs.Section.{cube}
use Rattle.sections.specs.declared.Shape.{Shape}
use Rattle.std.specs.Prelude.{Ok}
use Rattle.sections.proofs.Tables.{cube_flat, section_is}
use Rattle.sections.proofs.Layouts.{one_row}
use Rattle.sections.proofs.Rows.{laid_extent}
use Rattle.slot_file.specs.Slots.{no_slot, slot_count, slot_at, slots_before, slots_of}
use Rattle.slot_file.specs.Form.{slot_form}
use Rattle.slot_file.specs.File.{slot_bytes, slot_bodies, slot_file}
use Rattle.slot_file.proofs.SlotBytes.{bytes_of, slot_join}
use Rattle.slot_file.proofs.SlotPlaces.{counts_held, slots_held, sales_held}
use Rattle.slot_file.proofs.SlotReads.{SlotGood, slot_good, week_length, week_slot}

-- a slot's bytes are those of one number of 3 bytes
slot_digits : (s : List ℕ) → Bytes s → (j : ℕ) → bytes_of (slot_at s j) ≡ digits 3 (cell 3 s 1 j)
unfolding slot_at cell
slot_digits s b j =
    let at = offset s 1 + 3 * j in
    let p = get_or s at 0 in
    let r = number_at 2 s (at + 1) in
    let low : (p + 256 * r) % 256 ≡ (p + 0) % 256 = omega arith in
    let high : (p + 256 * r) / 256 ≡ r = omega (arith, b at) in
    rw (low, high)

module _ (f : Shape) (s : List ℕ) (b : Bytes s) (e : slot_form f s ≡ Ok f) where
  good : SlotGood f s
  good = slot_good f f s e

  counts_body : encode 1 f.weeks (λ w. length ((slots_of f s).line.week w)) ≡ part s (offset s 0) (extent s 0)
  unfolding slot_count
  counts_body =
      encode_ext 1 f.weeks _ (cell 1 s 0) (λ w l. week_length f s w)
      ∙ section_is 1 f.weeks s 0 b (counts_held f _ _ good.laid) (laid_extent good.laid 0 (omega arith) ∙ sym (one_row 1 f.weeks))

  -- a week's slots, off all
  week_bytes : (w : ℕ) → slot_bytes ((slots_of f s).line.week w) ≡ join_below (slot_count s w) (λ k. digits 3 (cell 3 s 1 (slots_before s w + k)))
  week_bytes w =
      slot_join ((slots_of f s).line.week w)
      ∙ (ap (λ (n : ℕ). join_below n (λ k. bytes_of (get_or ((slots_of f s).line.week w) k no_slot))) (week_length f s w)
      ∙ join_ext (slot_count s w) _ _ (λ k l. ap bytes_of (week_slot f s w k no_slot l) ∙ slot_digits s b (slots_before s w + k)))

  slots_body : join_below f.weeks (λ w. slot_bytes ((slots_of f s).line.week w)) ≡ part s (offset s 1) (extent s 1)
  unfolding slots_before cell
  slots_body =
      join_ext f.weeks _ _ (λ w l. week_bytes w)
      ∙ (join_runs f.weeks (slot_count s) (λ j. digits 3 (cell 3 s 1 j))
      ∙ (encode_numbers 3 (slots_before s f.weeks) s (offset s 1) b (slots_held f _ _ good.laid)
      ∙ ap (part s (offset s 1)) (sym (laid_extent good.laid 1 (omega arith) ∙ sym (one_row 3 (slots_before s f.weeks))))))

  sales_body : cube 4 f.customers f.products f.weeks (slots_of f s).sales ≡ part s (offset s 2) (extent s 2)
  unfolding slots_of
  sales_body =
      cube_flat 4 f.customers f.products f.weeks (cell 4 s 2)
      ∙ section_is 4 (f.customers * f.products * f.weeks) s 2 b (sales_held f _ _ good.laid) (laid_extent good.laid 2 (omega arith))

  bodies : (i : ℕ) → i < 3 → get_or (slot_bodies f (slots_of f s)) i [] ≡ part s (offset s i) (extent s i)
  unfolding slot_bodies
  bodies zero l = counts_body
  bodies (suc zero) l = slots_body
  bodies (suc (suc zero)) l = sales_body
  bodies (suc (suc (suc i))) l = absurd (omega arith)

  pub slots_is_file : s ≡ slot_file f (slots_of f s)
  unfolding slot_file slot_bodies
  slots_is_file =
      file_is_layout s 3 41 3 b good.head (placed_facts s 3 good.laid.lies) (slot_bodies f (slots_of f s)) refl bodies
