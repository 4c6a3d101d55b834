-- A PLANT FILE WITH GIVEN NUMBERS IS GOOD, AND THOSE NUMBERS ARE READ BACK, where they are within the paper's ranges. Assumes nothing.
use Prim.Native.Nat.{ℕ, ◌+◌, ◌*◌, ◌-◌, ◌/◌, ◌%◌, ◌^◌, ◌≤◌, ◌<◌}
use mathlib.Core.Path.{◌≡◌, refl, sym, ap, ◌∙◌}
use mathlib.Core.Logic.{◌⊎◌, inl, inr}
use mathlib.Core.Bool.{Bool, true, false, cond}
use mathlib.Core.List.{List, [], ◌∷◌, ◌++◌, map}
use native.Mathlib.Omega.{arith}
use lib.ListN.{length, get_or, length-append}
use lib.Dec.{ltb, eqb}
use borrow.Author.Tests.{eqb-true, eq-eqb, lt-ltb, le-ltb}
use Rattle.mathematics.specs.Below.{join_below}
use Rattle.mathematics.proofs.Below.{both_and}
use Rattle.mathematics.proofs.Join.{row_of, column_of, table_below, join_add, even_length}
use Rattle.numbers.specs.Number.{digits, encode, part}
use Rattle.numbers.proofs.Number.{encode_length, encode_ext}
use Rattle.contents.specs.Contents.{offset, extent, cell}
use Rattle.contents.specs.File.{start, Listable, file_of, contents_bytes}
use Rattle.contents.proofs.FileWritten as written
use Rattle.sections.specs.Section.{grid}
use Rattle.sections.specs.declared.Shape.{Shape}
use Rattle.std.specs.Prelude.{Ok}
use Rattle.sections.specs.Layout.{layout, lengths_of}
use Rattle.sections.specs.Limits.{most_storage, nothing_mounted, most_week_minutes}
use Rattle.sections.proofs.Places.{Small}
use Rattle.sections.proofs.Layouts.{one_row}
use Rattle.sections.proofs.Bodies.{grid_length, cube_length}
use Rattle.sections.proofs.Tables.{section_at, grid_at, cube_at, grid_encode}
use Rattle.plant_file.specs.Kinds.{plant_kind, has_mounted}
use Rattle.plant_file.specs.Plant.{rate_in, changeover_minutes_in, changeover_cents_in, demand_in, price_in, backlog_cost_in, inventory_cost_in}
use Rattle.plant_file.specs.Plant.{least_storage_in, greatest_storage_in, opening_inventory_in, opening_backlog_in, shortest_run_in, week_minutes_in}
use Rattle.plant_file.specs.Plant.{mounted_in, shut_before_in, Plant, shape_of_plant, plant_of}
use Rattle.plant_file.specs.Form.{shape_of, plant_headed, laid_out, plant_lengths, plant_form}
use Rattle.plant_file.specs.File.{plant_bodies, plant_file}
use Rattle.plant_file.specs.Same.{SamePlant}
use Rattle.plant_file.specs.Ranges.{PlantRanges}
use Rattle.plant_file.proofs.PlantKinds.{kind_number, kind_backlog, kind_sections, bodies_count}
use Rattle.plant_file.proofs.PlantAccepted.{plant_accepted}
use Rattle.plant_file.proofs.Lengths.{listable}

-- each body has its length
pub bodies_lengths : (p : Plant) → map length (plant_bodies p) ≡ plant_lengths (shape_of_plant p)
unfolding plant_bodies
bodies_lengths p =
    let n = p.products in
    let rates = encode_length 4 n p.line.rate ∙ one_row 4 n in
    let costs = encode_length 4 n p.inventory_cost ∙ one_row 4 n in
    let storage : length (join_below n (λ i. digits 4 (p.least_storage i) ++ digits 4 (p.greatest_storage i))) ≡ 4 * (n * 2) =
    omega (arith, even_length n 8 (λ i. digits 4 (p.least_storage i) ++ digits 4 (p.greatest_storage i)) (λ i. refl)) in
    let opening : length (encode 4 n p.opening_inventory ++ grid 4 p.customers n p.opening_backlog) ≡ 4 * ((1 + p.customers) * n) =
    omega (
      arith,
      length-append (encode 4 n p.opening_inventory) (grid 4 p.customers n p.opening_backlog),
      encode_length 4 n p.opening_inventory,
      grid_length 4 p.customers n p.opening_backlog,
    ) in
    λ u.
    3
    ∷ rates u
    ∷ grid_length 2 n n p.line.changeover_minutes u
    ∷ grid_length 4 n n p.line.changeover_cents u
    ∷ cube_length 4 p.customers n p.weeks p.demand u
    ∷ grid_length 4 p.customers n p.price u
    ∷ grid_length 4 p.customers n p.backlog_cost u
    ∷ costs u
    ∷ storage u
    ∷ opening u
    ∷ 4
    ∷ last (has_mounted p.kind) u
  where
    last : (t : Bool) → map length (cond t ((digits 1 p.line.mounted ++ digits 1 p.line.shut_before) ∷ []) [])
        ≡ lengths_of (cond t (layout 1 1 2 ∷ []) [])
    last true = refl
    last false = refl

pub file_length : (p : Plant) → length (plant_file p) ≡ start (plant_lengths (shape_of_plant p)) (length (plant_lengths (shape_of_plant p)))
unfolding plant_file
file_length p =
    written.file_length (plant_kind p.kind).number 1 (plant_bodies p) ∙ ap (λ (l : List ℕ). start l (length l)) (bodies_lengths p)

-- two rows of numbers end to end, as one
both_rows : (k m n : ℕ) (a b : ℕ → ℕ) → encode k m a ++ encode k n b ≡ encode k (m + n) (λ j. cond (ltb j m) (a j) (b (j - m)))
both_rows k m n a b =
    let g : ℕ → ℕ = λ j. cond (ltb j m) (a j) (b (j - m)) in
    (λ u.
    encode_ext k m a g (λ j l. rw (lt-ltb j m l) refl) u
    ++ encode_ext k n b (λ j. g (m + j)) (λ j l. let e : m + j - m ≡ j = omega arith in rw (le-ltb (m + j) m (omega arith), e) refl) u)
    ∙ sym (join_add m n (λ j. digits k (g j)))

module _ (p : Plant) (R : PlantRanges p) where
  abbrev f : Shape
  f = shape_of_plant p

  abbrev F : List ℕ
  F = plant_file p

  small : Small f
  small = (omega (arith, R.products_most), omega (arith, R.customers_most), omega (arith, R.weeks_most))

  listed : Listable 1 (map length (plant_bodies p))
  listed = rw (bodies_lengths p) (listable f small)

  size : (place : ℕ) → place < (plant_kind p.kind).sections → extent F place ≡ get_or (plant_lengths f) place 0
  unfolding plant_file
  size place l =
      written.extent_is (plant_kind p.kind).number 1 (plant_bodies p) (kind_number p.kind) listed place (omega (arith, bodies_count p))
      ∙ ap (λ (m : List ℕ). get_or m place 0) (bodies_lengths p)

  body : (place : ℕ) → place < (plant_kind p.kind).sections → part F (offset F place) (extent F place) ≡ get_or (plant_bodies p) place []
  unfolding plant_file
  body place l =
      written.file_body (plant_kind p.kind).number 1 (plant_bodies p) (kind_number p.kind) listed place (omega (arith, bodies_count p))

  -- sections 1 to 11 are in every kind
  listed_first : (place : ℕ) → place < 11 → place < (plant_kind p.kind).sections
  listed_first place l = omega (arith, (kind_sections p.kind).0)

  -- the numbers of a section are read back: of a row, and of a table
  row_at : (place : ℕ) → place < 11 → (k m : ℕ) (a : ℕ → ℕ) {bound : ℕ} → bound < 256 ^ k
      → get_or (plant_lengths f) place 0 ≡ k * m → get_or (plant_bodies p) place [] ≡ encode k m a
      → (j : ℕ) → j < m → a j ≤ bound → a j ≡ cell k F place j
  row_at place l k m a room e g j h b =
      sym (section_at k F place m a (size place (listed_first place l) ∙ e) (body place (listed_first place l) ∙ g) j h (omega arith))

  table_at : (place : ℕ) → place < 11 → (k m n : ℕ) (a : ℕ → ℕ → ℕ) {bound : ℕ} → bound < 256 ^ k
      → get_or (plant_lengths f) place 0 ≡ k * (m * n) → get_or (plant_bodies p) place [] ≡ grid k m n a
      → (i j : ℕ) → i < m → j < n → a i j ≤ bound → a i j ≡ cell k F place (i * n + j)
  table_at place l k m n a room e g i j x y b =
      sym (grid_at k F place m n a (size place (listed_first place l) ∙ e) (body place (listed_first place l) ∙ g) i j x y (omega arith))

  -- section 12
  last_at : (j : ℕ) → j < 2 → has_mounted p.kind ≡ true
      → cond (eqb j 0) p.line.mounted p.line.shut_before ≡ cell 1 F 11 j
  unfolding plant_bodies has_mounted
  last_at j l h =
      let a : ℕ → ℕ = λ j. cond (eqb j 0) p.line.mounted p.line.shut_before in
      let most : a j < 256 = cond_below (eqb j 0) (mounted_byte R.line.mounted_known_lem) (omega (arith, R.line.shut_before_most)) in
      let there : 11 < (plant_kind p.kind).sections = omega (arith, eqb-true (plant_kind p.kind).sections 12 h) in
      sym (section_at 1 F 11 2 a (size 11 there ∙ rw h refl) (body 11 there ∙ rw h refl) j l most)
    where
      cond_below : (t : Bool) {a b bound : ℕ} → a < bound → b < bound → cond t a b < bound
      cond_below true x y = x
      cond_below false x y = y

      mounted_byte : (p.line.mounted < p.products) ⊎ (p.line.mounted ≡ nothing_mounted) → p.line.mounted < 256
      mounted_byte (inl h) = omega (arith, R.products_most)
      mounted_byte (inr h) = omega arith

  mounted_back : p.line.mounted ≡ mounted_in f F
  unfolding mounted_in
  mounted_back = go (has_mounted p.kind) refl
    where
      go : (t : Bool) → has_mounted p.kind ≡ t → p.line.mounted ≡ cond t (cell 1 F 11 0) nothing_mounted
      go true h = last_at 0 (omega arith) h
      go false h = (R.none_mounted h).0

  pub shut_before_back : p.line.shut_before ≡ shut_before_in f F
  unfolding shut_before_in
  shut_before_back = go (has_mounted p.kind) refl
    where
      go : (t : Bool) → has_mounted p.kind ≡ t → p.line.shut_before ≡ cond t (cell 1 F 11 1) 0
      go true h = last_at 1 (omega arith) h
      go false h = (R.none_mounted h).1

  -- section 9
  storage_at_lem : (i j : ℕ) → i < p.products → j < 2 → (place : ℕ) → place ≡ i * 2 + j
      → cond (eqb j 0) (p.least_storage i) (p.greatest_storage i) ≤ most_storage
      → cond (eqb j 0) (p.least_storage i) (p.greatest_storage i) ≡ cell 4 F 8 place
  unfolding plant_bodies grid
  storage_at_lem i j x y place e b =
      table_at 8 (omega arith) 4 p.products 2 (λ i j. cond (eqb j 0) (p.least_storage i) (p.greatest_storage i)) (omega arith) refl refl i j x y b
      ∙ ap (cell 4 F 8) (sym e)

  -- section 10
  opening_at : (j : ℕ) → j < p.products + p.customers * p.products → (v : ℕ)
      → cond (ltb j p.products) (p.opening_inventory j)
      (p.opening_backlog ((j - p.products) / p.products) ((j - p.products) % p.products)) ≡ v → v ≤ most_storage → v ≡ cell 4 F 9 j
  unfolding plant_bodies
  opening_at j l v e b =
      let n = p.products in
      let rest : ℕ → ℕ = λ q. p.opening_backlog (q / n) (q % n) in
      let flat = ap (λ (x : List ℕ). encode 4 n p.opening_inventory ++ x) (grid_encode 4 p.customers n p.opening_backlog) in
      sym e
      ∙ row_at 9 (omega arith) 4 (n + p.customers * n) (λ j. cond (ltb j n) (p.opening_inventory j) (rest (j - n)))
      {bound = most_storage} (omega arith) (omega arith)
      (flat ∙ both_rows 4 n (p.customers * n) p.opening_inventory rest) j l (omega (arith, e))

  backlog_at_lem : (c i : ℕ) → c < p.customers → i < p.products → p.opening_backlog c i ≡ cell 4 F 9 (p.products + (c * p.products + i))
  backlog_at_lem c i x y =
      let n = p.products in
      let q = c * n + i in
      let back : n + q - n ≡ q = omega arith in
      let most : p.opening_backlog c i ≤ most_storage = omega (arith, R.opening_backlog_most c i x y, kind_backlog p.kind) in
      opening_at (n + q) (omega (arith, table_below {m = p.customers} x y)) (p.opening_backlog c i)
      (rw (le-ltb (n + q) n (omega arith))
      (λ u. p.opening_backlog ((ap (λ (m : ℕ). m / n) back ∙ row_of c y) u) ((ap (λ (m : ℕ). m % n) back ∙ column_of c y) u)))
      most

  -- section 11
  time_at : (j : ℕ) → j < 2 → cond (eqb j 0) p.shortest_run p.week_minutes ≤ most_week_minutes
      → cond (eqb j 0) p.shortest_run p.week_minutes ≡ cell 2 F 10 j
  unfolding plant_bodies
  time_at j l b = row_at 10 (omega arith) 2 2 (λ j. cond (eqb j 0) p.shortest_run p.week_minutes) (omega arith) refl refl j l b

  -- the numbers come back
  pub file_plant : SamePlant p (plant_of f F)
  unfolding plant_bodies rate_in changeover_minutes_in changeover_cents_in demand_in price_in backlog_cost_in inventory_cost_in least_storage_in greatest_storage_in
      opening_inventory_in opening_backlog_in shortest_run_in week_minutes_in
  file_plant =
      let n = p.products in
      let c = p.customers in
      record {
        rate = λ i x. row_at 1 (omega arith) 4 n p.line.rate (omega arith) (omega arith) refl i x (R.line.rate_most i x);
        changeover_minutes = λ i j x y.
            table_at 2 (omega arith) 2 n n p.line.changeover_minutes (omega arith) refl refl i j x y (R.line.minutes_most i j x y);
        changeover_cents = λ i j x y.
            table_at 3 (omega arith) 4 n n p.line.changeover_cents (omega arith) refl refl i j x y (R.line.cents_most i j x y);
        mounted = mounted_back;
        demand = λ h i w x y z.
            sym (cube_at 4 F 4 c n p.weeks p.demand (size 4 (listed_first 4 (omega arith))) (body 4 (listed_first 4 (omega arith))) h i w x y z
            (omega (arith, R.demand_most h i w x y z)));
        price = λ h i x y. table_at 5 (omega arith) 4 c n p.price (omega arith) refl refl h i x y (R.price_most h i x y);
        backlog_cost = λ h i x y. table_at 6 (omega arith) 4 c n p.backlog_cost (omega arith) refl refl h i x y (R.backlog_cost_most h i x y);
        inventory_cost = λ i x. row_at 7 (omega arith) 4 n p.inventory_cost (omega arith) (omega arith) refl i x (R.inventory_cost_most i x);
        least_storage = λ i x. storage_at_lem i 0 x (omega arith) (2 * i) (omega arith) (omega (arith, R.storage_ordered i x, R.storage_most i x));
        greatest_storage = λ i x. storage_at_lem i 1 x (omega arith) (2 * i + 1) (omega arith) (R.storage_most i x);
        opening_inventory = λ i x. opening_at i (omega arith) (p.opening_inventory i) (rw (lt-ltb i n x) refl) (R.opening_inventory_most i x);
        opening_backlog = backlog_at_lem;
        shortest_run = time_at 0 (omega arith) (omega (arith, R.shortest_most, R.week_most));
        week_minutes = time_at 1 (omega arith) R.week_most;
      }

  -- so do the counts
  first_byte : get_or F 0 0 ≡ p.kind
  unfolding plant_file file_of contents_bytes
  first_byte = omega (arith, kind_number p.kind, R.kind_known)

  counts_at : (j : ℕ) → j < 3 → (v : ℕ) → cond (eqb j 0) p.products (cond (eqb j 1) p.customers p.weeks) ≡ v → v < 256 → cell 1 F 0 j ≡ v
  unfolding plant_bodies
  counts_at j l v e b =
      let a : ℕ → ℕ = λ j. cond (eqb j 0) p.products (cond (eqb j 1) p.customers p.weeks) in
      section_at 1 F 0 3 a (size 0 (listed_first 0 (omega arith))) (body 0 (listed_first 0 (omega arith))) j l (omega (arith, e)) ∙ e

  shape_is : shape_of F ≡ f
  unfolding shape_of
  shape_is =
      let n = counts_at 0 (omega arith) p.products refl small.0 in
      let c = counts_at 1 (omega arith) p.customers refl small.1 in
      let w = counts_at 2 (omega arith) p.weeks refl small.2 in
      λ u. record { kind = first_byte u; products = n u; customers = c u; weeks = w u }

  -- and with them the ranges
  file_ranges : PlantRanges (plant_of f F)
  file_ranges =
      let e = file_plant in
      let l = R.line in
      record {
        kind_known = R.kind_known;
        none_mounted = λ h. (sym e.mounted ∙ (R.none_mounted h).0, sym shut_before_back ∙ (R.none_mounted h).1);
        products_least = R.products_least;
        products_most = R.products_most;
        customers_least = R.customers_least;
        customers_most = R.customers_most;
        weeks_least = R.weeks_least;
        weeks_most = R.weeks_most;
        line = record {
          rate_least = λ i x. rw (e.rate i x) at (l.rate_least i x);
          rate_most = λ i x. rw (e.rate i x) at (l.rate_most i x);
          minutes_most = λ i j x y. rw (e.changeover_minutes i j x y) at (l.minutes_most i j x y);
          minutes_diagonal = λ i x. sym (e.changeover_minutes i i x x) ∙ l.minutes_diagonal i x;
          cents_most = λ i j x y. rw (e.changeover_cents i j x y) at (l.cents_most i j x y);
          cents_diagonal = λ i x. sym (e.changeover_cents i i x x) ∙ l.cents_diagonal i x;
          mounted_known_lem = rw e.mounted at l.mounted_known_lem;
          shut_before_most = rw shut_before_back at l.shut_before_most;
        };
        demand_most = λ c i w x y z. rw (e.demand c i w x y z) at (R.demand_most c i w x y z);
        price_most = λ c i x y. rw (e.price c i x y) at (R.price_most c i x y);
        backlog_cost_most = λ c i x y. rw (e.backlog_cost c i x y) at (R.backlog_cost_most c i x y);
        inventory_cost_most = λ i x. rw (e.inventory_cost i x) at (R.inventory_cost_most i x);
        storage_ordered = λ i x. omega (arith, R.storage_ordered i x, e.least_storage i x, e.greatest_storage i x);
        storage_most = λ i x. rw (e.greatest_storage i x) at (R.storage_most i x);
        opening_inventory_most = λ i x. rw (e.opening_inventory i x) at (R.opening_inventory_most i x);
        opening_backlog_most = λ c i x y. rw (e.opening_backlog c i x y) at (R.opening_backlog_most c i x y);
        shortest_least = rw e.shortest_run at R.shortest_least;
        shortest_most = omega (arith, R.shortest_most, e.shortest_run, e.week_minutes);
        week_most = rw e.week_minutes at R.week_most;
      }

  pub file_good : plant_form F ≡ Ok f
  unfolding plant_headed laid_out plant_file
  file_good =
      let k = plant_kind p.kind in
      let bodies = plant_bodies p in
      let small-kind = kind_number p.kind in
      let heads = rw (bodies_count p) at (written.file_headed k.number 1 bodies small-kind listed) in
      let lies = rw (bodies_count p) at (written.file_placed k.number 1 bodies small-kind listed) in
      let lens = rw (bodies_lengths p) at (written.file_sized k.number 1 bodies small-kind listed) in
      let three : eqb (extent F 0) 3 ≡ true = eq-eqb _ _ (size 0 (listed_first 0 (omega arith))) in
      plant_accepted F (rw first_byte heads) (rw first_byte (both_and _ _ lies three)) (rw shape_is lens) (rw shape_is file_ranges) ∙ ap Ok shape_is
