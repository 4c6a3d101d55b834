-- The file of the slots that a plan shows: the bytes of its bodies, from the plan's numbers, and their lengths. Assumes nothing.
use Prim.Native.Nat.{ℕ, zero, suc, ◌+◌, ◌-◌, ◌*◌, ◌<◌, ◌≤◌}
use mathlib.Core.Path.{◌≡◌, refl, sym, ap, ◌∙◌}
use mathlib.Core.List.{List, [], ◌∷◌, ◌++◌, map}
use native.Mathlib.Omega.{arith}
use native.Mathlib.Nat.{mul_comm}
use lib.ListN.{length, get_or}
use borrow.Rule.Slice.PartMut.{mid_of, put_mid}
use Rattle.mathematics.specs.Below.{sum_below, join_below, list_below}
use Rattle.mathematics.specs.Order.{order_of}
use Rattle.mathematics.proofs.Below.{sum_ext, sum_mul, sum_prefix}
use Rattle.mathematics.proofs.Join.{join_first, join_length, even_length}
use Rattle.mathematics.proofs.OrderTheorem.{order_length}
use Rattle.numbers.specs.Number.{digits, encode, store}
use Rattle.numbers.proofs.Number.{encode_ext}
use Rattle.numbers.proofs.Store.{store_join, part_store}
use Rattle.contents.specs.File.{start, file_of}
use Rattle.contents.proofs.FileLayout.{body_length}
use Rattle.contents.proofs.FileWritten.{file_length}
use Rattle.sections.specs.Section.{cube}
use Rattle.sections.specs.Layout.{slot_kind}
use Rattle.sections.specs.declared.Shape.{Shape}
use Rattle.plan_file.specs.Plan.{plan_of}
use Rattle.plan_file.specs.Accepted.{plan_in}
use Rattle.slot_file.specs.Form.{slot_lengths}
use Rattle.slot_file.specs.File.{slot_bytes, slot_bodies}
use Rattle.slot_file.proofs.SlotBytes.{bytes_length}
use Rattle.slot_file.proofs.FileIsSlots.{body_lengths}
use Rattle.rules.specs.Rules.{week_of}
use Rattle.model.specs.Match.{slots_for, line_shown, slots_shown}
use Rattle.passed_plan.specs.Shown.{week_count, week_product}
use Rattle.slot_return.specs.declared.ShownSlots.{ShownSlots}
use Rattle.slot_return.specs.Bodies.{slots_in, count_in, week_in, body_in}

-- ---- the slots of an order
order_slots : (minutes : ℕ → ℕ) (ps : List ℕ) → length (slots_for minutes ps) ≡ length ps
order_slots minutes [] = refl
order_slots minutes (p ∷ ps) = ap suc (order_slots minutes ps)

-- their bytes, three a slot
order_bytes : (minutes : ℕ → ℕ) (n : ℕ) (product : ℕ → ℕ)
    → slot_bytes (slots_for minutes (list_below n product)) ≡ join_below n (λ k. digits 1 (product k) ++ digits 2 (minutes (product k)))
order_bytes minutes zero product = refl
order_bytes minutes (suc n) product =
    rw (order_bytes minutes n (λ k. product (suc k)), join_first n (λ k. digits 1 (product k) ++ digits 2 (minutes (product k))))

-- one more of the bodies that stand behind each other, stored at the start of the stretch that is lent
pub join_stored : (body : ℕ → List ℕ) (i at : ℕ) (first out lent : List ℕ) {bytes : List ℕ} → out ≡ store first 0 (join_below i body)
    → length (join_below i body) ≡ at → at ≤ length out → bytes ≡ body i → lent ≡ store (mid_of at (length out - at) out) 0 bytes
    → put_mid at (length out - at) out lent ≡ store first 0 (join_below (i + 1) body)
join_stored body i at first out lent o a l b e =
    ap (put_mid at (length out - at) out) (e ∙ ap (store (mid_of at (length out - at) out) 0) b)
    ∙ (part_store out at (body i) l ∙ (ap (λ (s : List ℕ). store s at (body i)) o ∙ store_join i body first at a))

-- the bytes of slot k of week w, of the plan file s
abbrev pub slot_of : Shape → List ℕ → (w k : ℕ) → List ℕ
slot_of f s w k = digits 1 (week_product f s w k) ++ digits 2 ((plan_of f s).line.minutes w (week_product f s w k))

pub slot_bytes_lem : (f : Shape) (s : List ℕ) (w k product minutes : ℕ) → product ≡ week_product f s w k → minutes ≡ (plan_of f s).line.minutes w product
    → digits 1 product ++ digits 2 minutes ≡ slot_of f s w k
slot_bytes_lem f s w k product minutes p m = rw (m, p)

module _ (x : ShownSlots) where
  abbrev f : Shape
  f = x.plan.shape

  abbrev product_in : (w k : ℕ) → ℕ
  product_in = week_product f x.plan.bytes.now

  abbrev minutes_in : (w product : ℕ) → ℕ
  minutes_in = (plan_in x.plan).line.minutes

  -- the bytes of a slot
  abbrev pub slot_in : (w k : ℕ) → List ℕ
  slot_in = slot_of f x.plan.bytes.now

  pub places_length : (w k : ℕ) → length (join_below k (slot_in w)) ≡ 3 * k
  places_length w k = even_length k 3 (slot_in w) (λ i. refl) ∙ mul_comm k 3

  -- ---- those of a week, and of the weeks
  week_length : (w : ℕ) → length (week_in x w) ≡ count_in x w
  unfolding slots_shown line_shown week_count
  week_length w =
      order_slots (minutes_in w) (order_of f.products (week_of (plan_in x.plan).line w))
      ∙ order_length f.products (week_of (plan_in x.plan).line w)

  pub week_bytes : (w : ℕ) → slot_bytes (week_in x w) ≡ join_below (count_in x w) (slot_in w)
  unfolding slots_shown line_shown week_count week_product order_of
  week_bytes w = order_bytes (minutes_in w) (count_in x w) (product_in w)

  pub weeks_length : (n : ℕ) → length (join_below n (λ w. slot_bytes (week_in x w))) ≡ 3 * sum_below n (count_in x)
  weeks_length n =
      join_length n _
      ∙ (sum_ext n _ (λ w. count_in x w * 3) (λ w l. bytes_length (week_in x w) ∙ ap (λ (n : ℕ). n * 3) (week_length w))
      ∙ (sum_mul n (count_in x) 3 ∙ mul_comm (sum_below n (count_in x)) 3))

  -- the slots of a week stand within those of all
  pub weeks_room : (w : ℕ) → w < f.weeks → (sum_below w (count_in x) + count_in x w ≤ x.total) × (x.total ≤ 65025)
  weeks_room w l = (omega (arith, sum_prefix f.weeks (count_in x) (suc w) l, x.counted), x.few)

  -- ---- the bodies
  pub counts_body : encode 1 f.weeks (count_in x) ≡ body_in x 0
  unfolding slot_bodies slots_shown
  counts_body = encode_ext 1 f.weeks _ _ (λ w l. sym (week_length w))

  pub sales_body : cube 4 f.customers f.products f.weeks (plan_in x.plan).sales ≡ body_in x 2
  unfolding slot_bodies slots_shown
  sales_body = refl

  pub listed : map length (slot_bodies f (slots_in x)) ≡ slot_lengths f x.total
  listed =
      body_lengths f (slots_in x) ∙ ap (slot_lengths f) (sum_ext f.weeks _ (count_in x) (λ w l. week_length w) ∙ sym x.counted)

  pub bodies_count : length (slot_bodies f (slots_in x)) ≡ slot_kind.sections
  unfolding slot_bodies
  bodies_count = refl

  -- the length of each, and of the file
  pub body_size : (place : ℕ) → length (body_in x place) ≡ get_or (slot_lengths f x.total) place 0
  body_size place = sym (body_length (slot_bodies f (slots_in x)) place) ∙ ap (λ (l : List ℕ). get_or l place 0) listed

  pub file_size : length (file_of slot_kind.number slot_kind.first (slot_bodies f (slots_in x)))
      ≡ start (slot_lengths f x.total) slot_kind.sections
  file_size = file_length 3 41 (slot_bodies f (slots_in x)) ∙ ap (λ (l : List ℕ). start l (length l)) listed
