-- A week's row of E, F, L, Z, ZF or O is what its slots store. Assumes nothing.
use Prim.Native.Nat.{ℕ, zero, suc, ◌+◌, ◌*◌, ◌/◌, ◌%◌, ◌-◌, ◌≤◌, ◌<◌}
use mathlib.Core.Path.{◌≡◌, refl, sym, ap, ◌∙◌}
use mathlib.Core.Logic.{◌≢◌, ◌⊎◌, inl, inr}
use mathlib.Core.Bool.{Bool, true, false, cond}
use mathlib.Core.List.{List, [], ◌∷◌}
use mir.Val.{bool_byte}
use native.Mathlib.Omega.{arith}
use native.Mathlib.Nat.{mul_comm, div-add-mod}
use native.Mathlib.Decide.{ℕ_discrete}
use lib.ListN.{length}
use Rattle.std.proofs.Common.{nat_eq}
use Rattle.mathematics.specs.Below.{sum_below, is}
use Rattle.mathematics.specs.Order.{order_at, ProductsBelow, first_in, last_in, assigned_in, position_in, changeover_in}
use Rattle.mathematics.proofs.Below.{sum_ext, is_same, is_other}
use Rattle.mathematics.proofs.Join.{row_of, column_of, table_below}
use Rattle.mathematics.proofs.OrderTables.{OrderFacts, assigned_sum, position_sum, changeover_sum}
use Rattle.numbers.specs.Number.{digits, encode, store}
use Rattle.numbers.proofs.Number.{encode_ext}
use Rattle.sections.specs.declared.Shape.{Shape}
use Rattle.std.specs.Prelude.{None, Some}
use Rattle.costs.specs.Mounted.{Mounted, is_mounted}
use Rattle.plan_writing.specs.Bodies.{section_of}
use Rattle.plan_writing.specs.Line.{mark_row, some_mounted, marked_from, marked_to, stride_in, from_of}
use Rattle.plan_writing.specs.Ran.{Cleared}
use Rattle.plan_writing.proofs.Scatter.{stored, slot_stored}
use Rattle.plan_writing.proofs.Zeros.{cleared_table}

-- ---- a test as a number
byte_is : (b : Bool) → bool_byte b ≡ cond b 1 0
byte_is true = refl
byte_is false = refl

pub rise_is : (a b : ℕ) → bool_byte (nat_eq a b) ≡ is a b
unfolding is
rise_is a b = byte_is (nat_eq a b)

-- ---- the slots that store lie in the week
some_most : (m : Mounted) → some_mounted m ≤ 1
some_most None = omega arith
some_most (Some p) = omega arith

pub marked_within : (m : Mounted) (n place : ℕ) → place < 6 → 1 ≤ n → (marked_from n place ≤ marked_to m n place) × (marked_to m n place ≤ n)
unfolding marked_from marked_to
marked_within m n zero p l = (omega arith, omega arith)
marked_within m n (suc zero) p l = (omega arith, omega arith)
marked_within m n (suc (suc zero)) p l = (omega arith, omega arith)
marked_within m n (suc (suc (suc zero))) p l = (omega arith, omega arith)
marked_within m n (suc (suc (suc (suc zero)))) p l = (omega arith, omega (arith, some_most m))
marked_within m n (suc (suc (suc (suc (suc zero))))) p l = (omega arith, omega arith)
marked_within m n (suc (suc (suc (suc (suc (suc place)))))) p l = absurd (omega arith)

-- ---- what slot from + u stores, and in which cell
module _ (stride rise : ℕ) (m : Mounted) (ps : List ℕ) (from : ℕ) where
  abbrev pub value_of : ℕ → ℕ
  value_of u = 1 + rise * (from + u)

  abbrev pub cell_of : ℕ → ℕ
  cell_of u = stride * from_of m ps (from + u) + order_at ps (from + u)

  -- number j after k of them
  abbrev pub marks : (k j : ℕ) → ℕ
  marks = stored value_of cell_of

-- one row, or a row for each product
abbrev Strides : (N stride columns : ℕ) → Type 0
Strides N stride columns = ((stride ≡ 0) × (columns ≡ N)) ⊎ ((stride ≡ N) × (columns ≡ N * N))

strides : (f : Shape) (place : ℕ) → place < 6 → Strides f.products (stride_in f.products place) (section_of f place).columns
unfolding stride_in section_of
strides f zero l = inl (refl, refl)
strides f (suc zero) l = inl (refl, refl)
strides f (suc (suc zero)) l = inl (refl, refl)
strides f (suc (suc (suc zero))) l = inr (refl, refl)
strides f (suc (suc (suc (suc zero)))) l = inr (refl, refl)
strides f (suc (suc (suc (suc (suc zero))))) l = inl (refl, refl)
strides f (suc (suc (suc (suc (suc (suc place)))))) l = absurd (omega arith)

below_of : (N stride columns b p : ℕ) → Strides N stride columns → b < N → p < N → stride * b + p < columns
below_of N stride columns b p (inl e) h l = rw (e.0, e.1) (omega (arith, l))
below_of N stride columns b p (inr e) h l = rw (e.0, e.1) (omega (arith, table_below h l, mul_comm N b))

pub cell_below : (f : Shape) (place b p : ℕ) {stride : ℕ} → place < 6 → stride ≡ stride_in f.products place → b < f.products → p < f.products
    → stride * b + p < (section_of f place).columns
cell_below f place b p l e h m = rw e (below_of f.products _ _ b p (strides f place l) h m)

apart_of : (N stride columns b c p q : ℕ) → Strides N stride columns → p < N → q < N → p ≢ q → stride * b + p ≢ stride * c + q
apart_of N stride columns b c p q (inl e) h l d r = d (let z : 0 * b + p ≡ 0 * c + q = rw e.0 at r in omega arith)
apart_of N stride columns b c p q (inr e) h l d r =
    let z : N * b + p ≡ N * c + q = rw e.0 at r in
    let y : b * N + p ≡ c * N + q = omega (arith, mul_comm N b, mul_comm N c) in
    d (sym (column_of b h) ∙ (ap (λ (x : ℕ). x % N) y ∙ column_of c l))

-- each slot stores in a cell of its own
cell_apart : (f : Shape) (place : ℕ) → place < 6 → (m : Mounted) (ps : List ℕ) → OrderFacts f.products ps
    → (rise from u k : ℕ) → u < k → from + k < length ps
    → cell_of (stride_in f.products place) rise m ps from u ≢ cell_of (stride_in f.products place) rise m ps from k
cell_apart f place l m ps o rise from u k a b =
    apart_of f.products _ _ (from_of m ps (from + u)) (from_of m ps (from + k)) (order_at ps (from + u)) (order_at ps (from + k))
    (strides f place l) (o.below (from + u) (omega arith)) (o.below (from + k) b)
    (λ e. let d = o.distinct (from + u) (from + k) (omega arith) b e in absurd (omega arith))

-- ---- row b, column p of n
is_cell : (n b p j : ℕ) → p < n → is (n * b + p) j ≡ is b (j / n) * is p (j % n)
is_cell n b p j l = go (ℕ_discrete (n * b + p) j)
  where
    apart : n * b + p ≢ j → Dec (b ≡ j / n) → Dec (p ≡ j % n) → is b (j / n) * is p (j % n) ≡ 0
    apart d (no e) q = ap (λ (x : ℕ). x * is p (j % n)) (is_other b (j / n) e) ∙ omega arith
    apart d (yes e) (no q) = ap (λ (x : ℕ). is b (j / n) * x) (is_other p (j % n) q) ∙ omega arith
    apart d (yes e) (yes q) = absurd (d ((λ u. n * e u + q u) ∙ div-add-mod j n))

    go : Dec (n * b + p ≡ j) → is (n * b + p) j ≡ is b (j / n) * is p (j % n)
    go (yes e) =
        let c : j ≡ b * n + p = sym e ∙ ap (λ (x : ℕ). x + p) (mul_comm n b) in
        let row : b ≡ j / n = sym (ap (λ (x : ℕ). x / n) c ∙ row_of b l) in
        let column : p ≡ j % n = sym (ap (λ (x : ℕ). x % n) c ∙ column_of b l) in
        is_same (n * b + p) j e ∙ (λ u. sym (is_same b (j / n) row) u * sym (is_same p (j % n) column) u)
    go (no d) = is_other (n * b + p) j d ∙ sym (apart d (ℕ_discrete b (j / n)) (ℕ_discrete p (j % n)))

-- ---- the sums over the slots that store, by the shape of the table
module _ (m : Mounted) (ps : List ℕ) where
  -- one row: E, F and L store 1, O the position
  flat : (rise from k j : ℕ) → marks 0 rise m ps from k j ≡ sum_below k (λ u. is (order_at ps (from + u)) j * (1 + rise * (from + u)))
  flat rise from k j =
      sum_ext k _ _ (λ u l.
      let c : 0 * from_of m ps (from + u) + order_at ps (from + u) ≡ order_at ps (from + u) = omega arith in
      ap (λ (x : ℕ). (1 + rise * (from + u)) * is x j) c ∙ mul_comm (1 + rise * (from + u)) (is (order_at ps (from + u)) j))

  -- a row for each product: Z and ZF store 1
  square : (N : ℕ) → ProductsBelow N ps → (from k j : ℕ) → from + k ≤ length ps
      → marks N 0 m ps from k j ≡ sum_below k (λ u. is (from_of m ps (from + u)) (j / N) * is (order_at ps (from + u)) (j % N))
  square N b from k j h =
      sum_ext k _ _ (λ u l.
      rw (is_cell N (from_of m ps (from + u)) (order_at ps (from + u)) j (b (from + u) (omega arith))) (omega arith))

  first_is : 1 ≤ length ps → (j : ℕ) → is (order_at ps 0) j ≡ first_in ps j
  first_is l j = go ps l
    where
      go : (ps : List ℕ) → 1 ≤ length ps → is (order_at ps 0) j ≡ first_in ps j
      go [] l = absurd (omega arith)
      go (p ∷ ps) l = refl

last_is : (p : ℕ) (ps : List ℕ) (j : ℕ) → is (order_at (p ∷ ps) (length ps)) j ≡ last_in (p ∷ ps) j
last_is p [] j = refl
last_is p (q ∷ ps) j = last_is q ps j

last_at : (ps : List ℕ) → 1 ≤ length ps → (j : ℕ) → is (order_at ps (length ps - 1)) j ≡ last_in ps j
last_at [] l j = absurd (omega arith)
last_at (p ∷ ps) l j = let e : suc (length ps) - 1 ≡ length ps = omega arith in rw e (last_is p ps j)

-- ---- every such table
module _ (m : Mounted) (ps : List ℕ) where
  -- from the first slot on
  from_start : (rise k j : ℕ) → marks 0 rise m ps 0 k j ≡ sum_below k (λ u. is (order_at ps u) j * (1 + rise * u))
  from_start rise k j =
      flat m ps rise 0 k j
      ∙ sum_ext k _ _ (λ u l. let e : 0 + u ≡ u = omega arith in ap (λ (x : ℕ). is (order_at ps x) j * (1 + rise * x)) e)

  all_slots : length ps - 0 ≡ length ps
  all_slots = omega arith

  assigned_marks : (j : ℕ) → marks 0 0 m ps 0 (length ps - 0) j ≡ assigned_in ps j
  assigned_marks j = rw all_slots (from_start 0 (length ps) j ∙ (sum_ext (length ps) _ _ (λ u l. omega arith) ∙ sym (assigned_sum ps j)))

  position_marks : (j : ℕ) → marks 0 1 m ps 0 (length ps - 0) j ≡ position_in ps j
  position_marks j =
      rw all_slots
      (from_start 1 (length ps) j
      ∙ (sum_ext (length ps) _ _ (λ u l. let e : 1 + 1 * u ≡ suc u = omega arith in ap (λ (x : ℕ). is (order_at ps u) j * x) e)
      ∙ sym (position_sum ps j)))

  -- one slot alone
  one_mark : (from j : ℕ) → marks 0 0 m ps from 1 j ≡ is (order_at ps from) j
  one_mark from j =
      let e : from + 0 ≡ from = omega arith in
      flat m ps 0 from 1 j ∙ (omega arith ∙ ap (λ (x : ℕ). is (order_at ps x) j) e)

  changeover_marks : (N : ℕ) → ProductsBelow N ps → 1 ≤ length ps → (j : ℕ)
      → marks N 0 m ps 1 (length ps - 1) j ≡ changeover_in ps (j / N) (j % N)
  changeover_marks N b l j =
      square m ps N b 1 (length ps - 1) j (omega arith)
      ∙ (sum_ext (length ps - 1) _ _ (λ u k. let e : 1 + u ≡ suc u = omega arith in
      ap (λ (x : ℕ). is (from_of m ps x) (j / N) * is (order_at ps x) (j % N)) e)
      ∙ sym (changeover_sum ps (j / N) (j % N)))

  between_marks : (N : ℕ) → ProductsBelow N ps → 1 ≤ length ps → (j : ℕ)
      → marks N 0 m ps 0 (some_mounted m - 0) j ≡ is_mounted m (j / N) * first_in ps (j % N)
  between_marks N b l j = go m
    where
      go : (m : Mounted) → marks N 0 m ps 0 (some_mounted m - 0) j ≡ is_mounted m (j / N) * first_in ps (j % N)
      go None = omega arith
      go (Some p) =
          square (Some p) ps N b 0 1 j (omega arith)
          ∙ (omega arith ∙ ap (λ (x : ℕ). is p (j / N) * x) (first_is m ps l (j % N)))

marks_all : (N place : ℕ) → place < 6 → (m : Mounted) (ps : List ℕ) → ProductsBelow N ps → 1 ≤ length ps → (j : ℕ)
    → marks (stride_in N place) (is place 5) m ps (marked_from (length ps) place) (marked_to m (length ps) place - marked_from (length ps) place) j
    ≡ mark_row N m ps place j
unfolding stride_in marked_from marked_to mark_row
marks_all N zero l m ps b h j = rw (is_other 0 5 (λ e. absurd (omega (arith, e)))) (assigned_marks m ps j)
marks_all N (suc zero) l m ps b h j =
    rw (is_other 1 5 (λ e. absurd (omega (arith, e)))) (one_mark m ps 0 j ∙ first_is m ps h j)
marks_all N (suc (suc zero)) l m ps b h j =
    let e : length ps - (length ps - 1) ≡ 1 = omega arith in
    rw (is_other 2 5 (λ e. absurd (omega (arith, e))), e) (one_mark m ps (length ps - 1) j ∙ last_at ps h j)
marks_all N (suc (suc (suc zero))) l m ps b h j = rw (is_other 3 5 (λ e. absurd (omega (arith, e)))) (changeover_marks m ps N b h j)
marks_all N (suc (suc (suc (suc zero)))) l m ps b h j = rw (is_other 4 5 (λ e. absurd (omega (arith, e)))) (between_marks m ps N b h j)
marks_all N (suc (suc (suc (suc (suc zero))))) l m ps b h j = rw (is_same 5 5 refl) (position_marks m ps j)
marks_all N (suc (suc (suc (suc (suc (suc place)))))) l m ps b h j = absurd (omega arith)

-- ---- the bytes of the row: none, one more, and all of the slots that store
module _ (f : Shape) (place : ℕ) (known : place < 6) (m : Mounted) (ps : List ℕ) (s : List ℕ) where
  abbrev columns : ℕ
  columns = (section_of f place).columns

  pub none_stored : (stride rise from : ℕ) → Cleared columns s → s ≡ store s 0 (encode 1 columns (marks stride rise m ps from (from - from)))
  none_stored stride rise from h =
      let one : columns ≡ 1 * columns = omega arith in
      let none : 0 ≡ from - from = omega arith in
      cleared_table 1 columns s (rw one at h) ∙ ap (λ (k : ℕ). store s 0 (encode 1 columns (marks stride rise m ps from k))) none

  -- a week of no product
  no_marks : length ps ≡ 0 → (j : ℕ) → 0 ≡ mark_row f.products m ps place j
  unfolding mark_row
  no_marks e j = go ps e place known
    where
      go : (ps : List ℕ) → length ps ≡ 0 → (place : ℕ) → place < 6 → 0 ≡ mark_row f.products m ps place j
      go (p ∷ ps) e place l = absurd (omega arith)
      go [] e zero l = refl
      go [] e (suc zero) l = refl
      go [] e (suc (suc zero)) l = refl
      go [] e (suc (suc (suc zero))) l = refl
      go [] e (suc (suc (suc (suc zero)))) l = omega arith
      go [] e (suc (suc (suc (suc (suc zero))))) l = refl
      go [] e (suc (suc (suc (suc (suc (suc place)))))) l = absurd (omega arith)

  pub shut_stored : Cleared columns s → length ps ≡ 0 → s ≡ store s 0 (encode 1 columns (mark_row f.products m ps place))
  shut_stored h e =
      let one : columns ≡ 1 * columns = omega arith in
      cleared_table 1 columns s (rw one at h) ∙ ap (store s 0) (encode_ext 1 columns _ _ (λ j l. no_marks e j))

  pub one_stored : (stride rise from k b p : ℕ) (out : List ℕ) → stride ≡ stride_in f.products place → OrderFacts f.products ps
      → from ≤ k → k < length ps → b < f.products → b ≡ from_of m ps k → p ≡ order_at ps k
      → out ≡ store s 0 (encode 1 columns (marks stride rise m ps from (k - from)))
      → store out (stride * b + p) (digits 1 (1 + rise * k)) ≡ store s 0 (encode 1 columns (marks stride rise m ps from (k + 1 - from)))
  one_stored stride rise from k b p out e o a l known-b b-is p-is h =
      let u = k - from in
      let at : k ≡ from + u = omega arith in
      let cell-is : stride * b + p ≡ cell_of stride rise m ps from u =
      (λ v. stride * b-is v + p-is v) ∙ ap (λ (x : ℕ). stride * from_of m ps x + order_at ps x) at in
      let one : cell_of stride rise m ps from u ≡ 1 * cell_of stride rise m ps from u = omega arith in
      let next : u + 1 ≡ k + 1 - from = omega arith in
      let product_known : p < f.products = omega (arith, o.below k l) in
      slot_stored (value_of stride rise m ps from) (cell_of stride rise m ps from) 1 u columns _ _ s out h (cell-is ∙ one)
      (ap (λ (x : ℕ). 1 + rise * x) at) (omega (arith, cell-is, cell_below f place b p known e known-b product_known))
      (λ v j. rw e (cell_apart f place known m ps o rise from v u j (omega arith)))
      ∙ ap (λ (x : ℕ). store s 0 (encode 1 columns (marks stride rise m ps from x))) next

  pub all_stored : {stride rise from to : ℕ} → stride ≡ stride_in f.products place → rise ≡ is place 5 → from ≡ marked_from (length ps) place
      → to ≡ marked_to m (length ps) place → ProductsBelow f.products ps → 1 ≤ length ps
      → store s 0 (encode 1 columns (marks stride rise m ps from (to - from))) ≡ store s 0 (encode 1 columns (mark_row f.products m ps place))
  all_stored e r a z b l =
      (λ u. store s 0 (encode 1 columns (marks (e u) (r u) m ps (a u) (z u - a u))))
      ∙ ap (store s 0) (encode_ext 1 columns _ _ (λ j h. marks_all f.products place known m ps b l j))
