-- A GOOD PLANT FILE IS THE LAYOUT OF ITS NUMBERS, byte for byte. Assumes nothing.
use Prim.Native.Nat.{ℕ, ◌+◌, ◌*◌, ◌<◌}
use mathlib.Core.Path.{◌≡◌, refl, sym, ap, ◌∙◌}
use mathlib.Core.Bool.{true}
use mathlib.Core.List.{List, [], ◌++◌}
use native.Mathlib.Omega.{arith}
use lib.ListN.{length, get_or}
use Rattle.mathematics.specs.Below.{join_below}
use Rattle.mathematics.proofs.Below.{below_twelve}
use Rattle.mathematics.proofs.Join.{join_ext, join_add, join_rows}
use Rattle.numbers.specs.Number.{Bytes, Width, digits, encode, part}
use Rattle.contents.specs.Contents.{offset, extent, cell}
use Rattle.contents.proofs.Facts.{headed_facts, placed_facts}
use Rattle.contents.proofs.FileLayout.{file_is_layout}
use Rattle.sections.specs.Section.{Laid, grid}
use Rattle.sections.specs.declared.Shape.{Shape}
use Rattle.std.specs.Prelude.{Ok}
use Rattle.sections.proofs.Rows.{laid_extent, laid_holds, width1, width2, width4}
use Rattle.sections.proofs.Tables.{grid_flat, cube_flat, section_is}
use Rattle.plant_file.specs.Kinds.{plant_kind, has_mounted}
use Rattle.plant_file.specs.Plant.{rate_in, changeover_minutes_in, changeover_cents_in, demand_in, price_in, backlog_cost_in, inventory_cost_in}
use Rattle.plant_file.specs.Plant.{least_storage_in, greatest_storage_in, opening_inventory_in, opening_backlog_in, shortest_run_in, week_minutes_in}
use Rattle.plant_file.specs.Plant.{mounted_in, shut_before_in, plant_of}
use Rattle.plant_file.specs.Form.{shape_of, plant_headed, plant_lengths, plant_form}
use Rattle.plant_file.specs.File.{plant_bodies, plant_file}
use Rattle.plant_file.proofs.PlantKinds.{kind_sections, more_sections, kind_lengths, bodies_count}
use Rattle.plant_file.proofs.PlantReads.{plant_good, good_laid}

module _ (f : Shape) (s : List ℕ) (b : Bytes s) (good : plant_form s ≡ Ok f) where
  laid : Laid s (plant_lengths f)
  laid = good_laid s f good

  -- the body in a place is the encoding of its numbers
  body : (place : ℕ) → place < length (plant_lengths f) → (k m : ℕ) → Width k → get_or (plant_lengths f) place 0 ≡ k * m
      → encode k m (cell k s place) ≡ part s (offset s place) (extent s place)
  body place l k m w e =
      section_is k m s place b (laid_holds laid place l k m w (omega arith)) (laid_extent laid place l ∙ e)

  table : (place : ℕ) → place < length (plant_lengths f) → (k m n : ℕ) → Width k → get_or (plant_lengths f) place 0 ≡ k * (m * n)
      → grid k m n (λ i j. cell k s place (i * n + j)) ≡ part s (offset s place) (extent s place)
  table place l k m n w e = grid_flat k m n (cell k s place) ∙ body place l k (m * n) w e

  -- section 1
  shape : digits 1 f.products ++ (digits 1 f.customers ++ digits 1 f.weeks) ≡ part s (offset s 0) (extent s 0)
  unfolding shape_of
  shape =
      ap (λ (g : Shape). digits 1 g.products ++ (digits 1 g.customers ++ digits 1 g.weeks)) (sym (plant_good s f good).shape)
      ∙ body 0 (omega arith) 1 3 width1 refl

  -- section 9, by product
  storage : join_below f.products (λ i. digits 4 (cell 4 s 8 (2 * i)) ++ digits 4 (cell 4 s 8 (2 * i + 1))) ≡ part s (offset s 8) (extent s 8)
  storage =
      join_ext f.products _ (λ i. join_below 2 (λ j. digits 4 (cell 4 s 8 (i * 2 + j))))
      (λ i l.
      let even : 2 * i ≡ i * 2 + 0 = omega arith in
      let odd : 2 * i + 1 ≡ i * 2 + 1 = omega arith in
      λ u. digits 4 (cell 4 s 8 (even u)) ++ digits 4 (cell 4 s 8 (odd u)))
      ∙ (join_rows f.products 2 (λ q. digits 4 (cell 4 s 8 q)) ∙ body 8 (omega arith) 4 (f.products * 2) width4 refl)

  -- section 10: inventory, then backlog
  opening : encode 4 f.products (cell 4 s 9) ++ grid 4 f.customers f.products (λ c i. cell 4 s 9 (f.products + (c * f.products + i)))
      ≡ part s (offset s 9) (extent s 9)
  opening =
      let n = f.products in
      let m = f.customers * n in
      ap (λ (x : List ℕ). encode 4 n (cell 4 s 9) ++ x) (grid_flat 4 f.customers n (λ q. cell 4 s 9 (n + q)))
      ∙ (sym (join_add n m (λ q. digits 4 (cell 4 s 9 q))) ∙ body 9 (omega arith) 4 (n + m) width4 (omega arith))

  -- section 12
  mounted : has_mounted f.kind ≡ true → digits 1 (cell 1 s 11 0) ++ digits 1 (cell 1 s 11 1) ≡ part s (offset s 11) (extent s 11)
  mounted h =
      let n : length (plant_lengths f) ≡ 12 = rw h refl in
      body 11 (omega arith) 1 2 width1 (rw h refl)

  -- each body; section 12 in the kinds that have it
  pub body_is : (i : ℕ) → i < (plant_kind f.kind).sections → get_or (plant_bodies (plant_of f s)) i [] ≡ part s (offset s i) (extent s i)
  unfolding plant_bodies rate_in changeover_minutes_in changeover_cents_in demand_in price_in backlog_cost_in inventory_cost_in
      least_storage_in greatest_storage_in opening_inventory_in opening_backlog_in shortest_run_in week_minutes_in mounted_in shut_before_in
  body_is i l =
      let n = f.products in
      below_twelve (λ i. i < (plant_kind f.kind).sections → get_or (plant_bodies (plant_of f s)) i [] ≡ part s (offset s i) (extent s i))
      (λ _. shape)
      (λ _. body 1 (omega arith) 4 n width4 (omega arith))
      (λ _. table 2 (omega arith) 2 n n width2 refl)
      (λ _. table 3 (omega arith) 4 n n width4 refl)
      (λ _. cube_flat 4 f.customers n f.weeks (cell 4 s 4) ∙ body 4 (omega arith) 4 _ width4 refl)
      (λ _. table 5 (omega arith) 4 f.customers n width4 refl)
      (λ _. table 6 (omega arith) 4 f.customers n width4 refl)
      (λ _. body 7 (omega arith) 4 n width4 (omega arith))
      (λ _. storage)
      (λ _. opening)
      (λ _. body 10 (omega arith) 2 2 width2 refl)
      (λ m. let h = more_sections f.kind m in rw h (mounted h))
      i (omega (arith, (kind_sections f.kind).1)) l

  pub plant_is_file : s ≡ plant_file (plant_of f s)
  unfolding plant_file plant_headed
  plant_is_file =
      let k = plant_kind f.kind in
      let g = plant_good s f good in
      let heads = headed_facts s k.number 1 k.sections (rw g.kind at g.head) in
      let lies = placed_facts s k.sections (rw (kind_lengths f) at laid.lies) in
      file_is_layout s k.number 1 k.sections b heads lies (plant_bodies (plant_of f s)) (bodies_count (plant_of f s)) body_is
