-- When two plant files have the same numbers. Accepted files of kind 4 do that agree in every byte but the last, section 12's second. Assumes
-- nothing.
use Prim.Native.Nat.{ℕ, zero, suc, ◌+◌, ◌*◌, ◌-◌, ◌≤◌, ◌<◌}
use mathlib.Core.Path.{◌≡◌, refl, sym, ap, ◌∙◌}
use mathlib.Core.Bool.{cond}
use mathlib.Core.List.{List, ◌++◌}
use native.Mathlib.Omega.{arith}
use lib.ListN.{length, get_or}
use Rattle.mathematics.proofs.Below.{sum_prefix}
use Rattle.mathematics.proofs.Join.{table_below, join_ext}
use Rattle.numbers.specs.Number.{number_at, digits}
use Rattle.numbers.proofs.Number.{room, encode_ext}
use Rattle.contents.specs.Contents.{entry_at, entry, offset, extent, cell}
use Rattle.contents.proofs.Facts.{Placed, placed_facts, offset_sum}
use Rattle.sections.specs.Section.{Laid}
use Rattle.sections.specs.declared.Shape.{Shape}
use Rattle.std.specs.Prelude.{Ok}
use Rattle.sections.specs.Limits.{nothing_mounted}
use Rattle.sections.proofs.Rows.{laid_extent}
use Rattle.sections.proofs.Bodies.{grid_ext, cube_ext}
use Rattle.sections.proofs.Tables.{cube_below}
use Rattle.plant_file.specs.Plant.{rate_in, changeover_minutes_in, changeover_cents_in, demand_in, price_in, backlog_cost_in, inventory_cost_in}
use Rattle.plant_file.specs.Plant.{least_storage_in, greatest_storage_in, opening_inventory_in, opening_backlog_in, shortest_run_in, week_minutes_in}
use Rattle.plant_file.specs.Plant.{Plant, shape_of_plant, plant_of, mounted_in, shut_before_in}
use Rattle.plant_file.specs.File.{plant_bodies, plant_file}
use Rattle.plant_file.proofs.Cells.{byte_cell}
use Rattle.plant_file.specs.Same.{SamePlant}
use Rattle.plant_file.specs.Kinds.{plant_kind, has_mounted}
use Rattle.plant_file.specs.Form.{plant_lengths, plant_form}
use Rattle.plant_file.proofs.PlantKinds.{kind_lengths, has_section}
use Rattle.plant_file.proofs.PlantReads.{good_laid}

-- a number is the same where the bytes up to its end are
number_same : (k : ℕ) (a b : List ℕ) (from : ℕ) → ((j : ℕ) → j < from + k → get_or b j 0 ≡ get_or a j 0) → number_at k a from ≡ number_at k b from
number_same zero a b from h = refl
number_same (suc k) a b from h = omega (arith, h from (omega arith), number_same k a b (from + 1) (λ j l. h j (omega arith)))

-- each body before the last ends by where the last begins
ends_before : (s : List ℕ) (n : ℕ) → Placed s (suc n) → (i : ℕ) → i < n → offset s i + extent s i ≤ offset s n
ends_before s n h i l =
    omega (
      arith,
      offset_sum s (suc n) h i (omega arith),
      offset_sum s (suc n) h n (omega arith),
      sum_prefix n (extent s) (suc i) l,
    )

-- ---- two files that agree but in the last byte; the bodies of the first, n and one more, have these lengths
module _ {a lengths : List ℕ} (b : List ℕ) (n : ℕ) (laid : Laid a lengths) (count : length lengths ≡ suc n)
    (agree : (j : ℕ) → j + 1 < length a → get_or b j 0 ≡ get_or a j 0) where
  lies : Placed a (suc n)
  lies = placed_facts a (suc n) (rw count at laid.lies)

  last_ends : offset a n + get_or lengths n 0 ≡ length a
  last_ends = let e : offset a n + extent a n ≡ length a = lies.ends in omega (arith, laid_extent laid n (omega (arith, count)))

  -- the last byte lies behind the contents
  offset_same : (i : ℕ) → i ≤ n → offset a i ≡ offset b i
  unfolding entry entry_at
  offset_same i l = number_same 4 a b (2 + 9 * i + 1) (λ j m. agree j (omega (arith, count, laid.long)))

  cell_same : (k i j : ℕ) → i ≤ n → offset a i + k * j + k < length a → cell k a i j ≡ cell k b i j
  unfolding cell
  cell_same k i j l h =
      number_same k a b (offset a i + k * j) (λ q m. agree q (omega arith))
      ∙ ap (λ (from : ℕ). number_at k b (from + k * j)) (offset_same i l)

  -- number j of the m that a section before the last has room for
  section_same : 1 ≤ get_or lengths n 0 → (k i m j : ℕ) → i < n → k * m ≤ get_or lengths i 0 → j < m → cell k a i j ≡ cell k b i j
  section_same some k i m j l h r =
      cell_same k i j (omega arith)
      (omega (arith, ends_before a n lies i l, last_ends, laid_extent laid i (omega (arith, count)), room k r))

  first_same : 2 ≤ get_or lengths n 0 → cell 1 a n 0 ≡ cell 1 b n 0
  first_same more = cell_same 1 n 0 (omega arith) (omega (arith, last_ends))

-- ---- plant files of kind 4: twelve lengths, the last of them 2
lengths_count : (f : Shape) → f.kind ≡ 4 → length (plant_lengths f) ≡ 12
unfolding plant_kind
lengths_count f e = kind_lengths f ∙ ap (λ (kind : ℕ). (plant_kind kind).sections) e

-- section 12's two bytes are the file's last
pub section_bytes : (f : Shape) (s : List ℕ) → plant_form s ≡ Ok f → f.kind ≡ 4
    → ((plant_of f s).line.mounted ≡ get_or s (length s - 2) 0) × ((plant_of f s).line.shut_before ≡ get_or s (length s - 1) 0)
unfolding mounted_in shut_before_in
section_bytes f s good four =
    let laid = good_laid s f good in
    let count = lengths_count f four in
    let two : get_or (plant_lengths f) 11 0 ≡ 2 = rw (has_section f.kind four) refl in
    let ends = last_ends s 11 laid count (λ j l. refl) in
    rw (has_section f.kind four)
    (sym (byte_cell s 11 0 (length s - 2) (omega arith)), sym (byte_cell s 11 1 (length s - 1) (omega arith)))

-- the first file's rows are enough: the other's contents are the same
pub same_numbers : (f : Shape) (a b : List ℕ) → plant_form a ≡ Ok f → f.kind ≡ 4 → ((j : ℕ) → j + 1 < length a → get_or b j 0 ≡ get_or a j 0)
    → SamePlant (plant_of f a) (plant_of f b)
unfolding rate_in changeover_minutes_in changeover_cents_in demand_in price_in backlog_cost_in inventory_cost_in least_storage_in greatest_storage_in
    opening_inventory_in opening_backlog_in shortest_run_in week_minutes_in mounted_in
same_numbers f a b good four agree =
    let n = f.products in
    let cn = f.customers * n in
    let two : get_or (plant_lengths f) 11 0 ≡ 2 = rw (has_section f.kind four) refl in
    let laid = good_laid a f good in
    let count = lengths_count f four in
    let same = section_same b 11 laid count agree (omega arith) in
    let first = first_same b 11 laid count agree (omega arith) in
    record {
      rate = λ i l. same 4 1 n i (omega arith) (omega arith) l;
      changeover_minutes = λ i j l m. same 2 2 (n * n) (i * n + j) (omega arith) (omega arith) (table_below l m);
      changeover_cents = λ i j l m. same 4 3 (n * n) (i * n + j) (omega arith) (omega arith) (table_below l m);
      mounted = ap (λ (x : ℕ). cond (has_mounted f.kind) x nothing_mounted) first;
      demand = λ c i w x y z. same 4 4 (cn * f.weeks) ((c * n + i) * f.weeks + w) (omega arith) (omega arith) (cube_below x y z);
      price = λ c i x y. same 4 5 cn (c * n + i) (omega arith) (omega arith) (table_below x y);
      backlog_cost = λ c i x y. same 4 6 cn (c * n + i) (omega arith) (omega arith) (table_below x y);
      inventory_cost = λ i l. same 4 7 n i (omega arith) (omega arith) l;
      least_storage = λ i l. same 4 8 (2 * n) (2 * i) (omega arith) (omega arith) (omega arith);
      greatest_storage = λ i l. same 4 8 (2 * n) (2 * i + 1) (omega arith) (omega arith) (omega arith);
      opening_inventory = λ i l. same 4 9 n i (omega arith) (omega arith) l;
      opening_backlog = λ c i x y. same 4 9 (n + cn) (n + (c * n + i)) (omega arith) (omega arith) (omega (arith, table_below {m = f.customers} x y));
      shortest_run = same 2 10 2 0 (omega arith) (omega arith) (omega arith);
      week_minutes = same 2 10 2 1 (omega arith) (omega arith) (omega arith);
    }

-- plants with the same counts and the same numbers in all sections have the same file
pub same_file : (p q : Plant) → shape_of_plant p ≡ shape_of_plant q → SamePlant p q → p.line.shut_before ≡ q.line.shut_before → plant_file p ≡ plant_file q
unfolding plant_file plant_bodies
same_file p q counts same shut =
    let n = p.products in
    let c = p.customers in
    let kind : p.kind ≡ q.kind = ap (λ (f : Shape). f.kind) counts in
    let products : n ≡ q.products = ap (λ (f : Shape). f.products) counts in
    let customers : c ≡ q.customers = ap (λ (f : Shape). f.customers) counts in
    let weeks : p.weeks ≡ q.weeks = ap (λ (f : Shape). f.weeks) counts in
    rw (
      encode_ext 4 n _ _ same.rate,
      grid_ext 2 n n _ _ same.changeover_minutes,
      grid_ext 4 n n _ _ same.changeover_cents,
      cube_ext 4 c n p.weeks _ _ same.demand,
      grid_ext 4 c n _ _ same.price,
      grid_ext 4 c n _ _ same.backlog_cost,
      encode_ext 4 n _ _ same.inventory_cost,
      join_ext n _ _ (λ i l u. digits 4 (same.least_storage i l u) ++ digits 4 (same.greatest_storage i l u)),
      encode_ext 4 n _ _ same.opening_inventory,
      grid_ext 4 c n _ _ same.opening_backlog,
      same.shortest_run,
      same.week_minutes,
      same.mounted,
      shut,
      kind,
      products,
      customers,
      weeks,
    )
