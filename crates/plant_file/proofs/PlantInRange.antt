-- THE RANGES: every number of a good plant file is within the range that the paper gives it. Assumes nothing.
use Prim.Native.Nat.{ℕ, ◌+◌, ◌*◌, ◌≤◌, ◌<◌}
use mathlib.Core.Path.{◌≡◌, refl}
use mathlib.Core.Logic.{◌⊎◌, inl, inr}
use mathlib.Core.Bool.{Bool, true, false, ◌&&◌, ◌||◌}
use mathlib.Core.List.{List}
use lib.Dec.{leb, ltb, eqb}
use borrow.Author.Tests.{leb-true, ltb-true, eqb-true}
use Rattle.mathematics.specs.Below.{within}
use Rattle.mathematics.proofs.Below.{and_both, all_each, within_at}
use Rattle.mathematics.proofs.Join.{table_below}
use Rattle.contents.specs.Contents.{cell}
use Rattle.sections.specs.Section.{in_range, diagonal_zero}
use Rattle.sections.specs.declared.Shape.{Shape}
use Rattle.std.specs.Prelude.{Ok}
use Rattle.sections.proofs.Tables.{range_at, range_first, cube_below}
use Rattle.sections.specs.Limits.{most_rate, most_changeover_minutes, most_changeover_cents, most_demand, most_unit_cost, most_storage, nothing_mounted}
use Rattle.plant_file.specs.Plant.{line_of, plant_of, rate_in, changeover_minutes_in, changeover_cents_in, demand_in, price_in, backlog_cost_in}
use Rattle.plant_file.specs.Plant.{inventory_cost_in, least_storage_in, greatest_storage_in, opening_inventory_in, opening_backlog_in, shortest_run_in, week_minutes_in}
use Rattle.plant_file.specs.Plant.{mounted_in, shut_before_in}
use Rattle.plant_file.specs.Kinds.{plant_kind}
use Rattle.plant_file.specs.Form.{in_limits, diagonals_in_range, mounted_known, mounted_in_range, line_in_range, market_in_range, storage_in_range}
use Rattle.plant_file.specs.Form.{opening_in_range, time_in_range, plant_in_range, plant_form}
use Rattle.plant_file.specs.Ranges.{LineRanges, PlantRanges}
use Rattle.plant_file.proofs.PlantKinds.{kind_diagonals}
use Rattle.plant_file.proofs.PlantReads.{plant_good, known_number}

diagonal_at : (k : ℕ) (s : List ℕ) (i n : ℕ) → diagonal_zero k s i n ≡ true → (j : ℕ) → j < n → cell k s i (j * n + j) ≡ 0
unfolding diagonal_zero
diagonal_at k s i n h j l = eqb-true _ _ (all_each n (λ q. eqb (cell k s i (q * n + q)) 0) h j l)

-- section 12, by the test of its range
mounted_known_lem : (N m : ℕ) → mounted_known N m ≡ true → (m < N) ⊎ (m ≡ nothing_mounted)
unfolding mounted_known
mounted_known_lem N m h = go (ltb m N) refl h
  where
    go : (t : Bool) → ltb m N ≡ t → (t || eqb m nothing_mounted) ≡ true → (m < N) ⊎ (m ≡ nothing_mounted)
    go true e g = inl (ltb-true m N e)
    go false e g = inr (eqb-true m nothing_mounted g)

line_ranges : (s : List ℕ) (f : Shape) → line_in_range s f ≡ true → LineRanges f.products (line_of f s)
unfolding line_in_range diagonals_in_range mounted_in_range rate_in changeover_minutes_in changeover_cents_in
line_ranges s f h =
    let n = f.products in
    let a = and_both (in_range 4 s 1 0 n 1 most_rate) _ h in
    let b = and_both (in_range 2 s 2 0 (n * n) 0 most_changeover_minutes) _ a.1 in
    let d = and_both (in_range 4 s 3 0 (n * n) 0 most_changeover_cents) _ b.1 in
    let e = and_both (diagonals_in_range s f) _ d.1 in
    let zero = and_both (diagonal_zero 2 s 2 n) _ (rw (kind_diagonals f.kind) at e.0) in
    let before = and_both (leb (shut_before_in f s) 1) _ e.1 in
    record {
      rate_least = λ i l. (range_first 4 s 1 n 1 most_rate a.0 i l).0;
      rate_most = λ i l. (range_first 4 s 1 n 1 most_rate a.0 i l).1;
      minutes_most = λ i j l m. (range_first 2 s 2 (n * n) 0 most_changeover_minutes b.0 (i * n + j) (table_below l m)).1;
      minutes_diagonal = diagonal_at 2 s 2 n zero.0;
      cents_most = λ i j l m. (range_first 4 s 3 (n * n) 0 most_changeover_cents d.0 (i * n + j) (table_below l m)).1;
      cents_diagonal = diagonal_at 4 s 3 n zero.1;
      mounted_known_lem = mounted_known_lem n (mounted_in f s) before.1;
      shut_before_most = leb-true _ _ before.0;
    }

storage_at_lem : (s : List ℕ) (n : ℕ) → storage_in_range s n ≡ true → (i : ℕ) → i < n
    → (cell 4 s 8 (2 * i) ≤ cell 4 s 8 (2 * i + 1)) × (cell 4 s 8 (2 * i + 1) ≤ most_storage)
unfolding storage_in_range
storage_at_lem s n h i l =
    let r = and_both (leb (cell 4 s 8 (2 * i)) (cell 4 s 8 (2 * i + 1))) _
    (all_each n (λ j. leb (cell 4 s 8 (2 * j)) (cell 4 s 8 (2 * j + 1)) && leb (cell 4 s 8 (2 * j + 1)) most_storage) h i l) in
    (leb-true _ _ r.0, leb-true _ _ r.1)

pub plant_ranges : (s : List ℕ) (f : Shape) → plant_form s ≡ Ok f → PlantRanges (plant_of f s)
unfolding demand_in price_in backlog_cost_in inventory_cost_in least_storage_in greatest_storage_in opening_inventory_in opening_backlog_in shortest_run_in
    week_minutes_in mounted_in shut_before_in in_limits plant_in_range market_in_range opening_in_range time_in_range
plant_ranges s f good =
    let g = plant_good s f good in
    let n = f.products in
    let cn = f.customers * n in
    let l = and_both (within 1 16 n) _ g.limits in
    let m = and_both (within 1 8 f.customers) _ l.1 in
    let limitN = within_at 1 16 n l.0 in
    let limitC = within_at 1 8 f.customers m.0 in
    let limitW = within_at 1 26 f.weeks m.1 in
    let a = and_both (line_in_range s f) _ g.ranges in
    let b = and_both (market_in_range s f) _ a.1 in
    let d = and_both (storage_in_range s n) _ b.1 in
    let e = and_both (opening_in_range s f) _ d.1 in
    let demand = and_both (in_range 4 s 4 0 (cn * f.weeks) 0 most_demand) _ b.0 in
    let price = and_both (in_range 4 s 5 0 cn 0 most_unit_cost) _ demand.1 in
    let costs = and_both (in_range 4 s 6 0 cn 0 most_unit_cost) _ price.1 in
    let opening = and_both (in_range 4 s 9 0 n 0 most_storage) _ e.0 in
    let time = and_both (within 1 (cell 2 s 10 1) (cell 2 s 10 0)) _ e.1 in
    let shortest = within_at 1 (cell 2 s 10 1) (cell 2 s 10 0) time.0 in
    record {
      kind_known = known_number s f good;
      none_mounted = λ e. (rw e refl, rw e refl);
      products_least = limitN.0;
      products_most = limitN.1;
      customers_least = limitC.0;
      customers_most = limitC.1;
      weeks_least = limitW.0;
      weeks_most = limitW.1;
      line = line_ranges s f a.0;
      demand_most = λ c i w x y z. (range_first 4 s 4 (cn * f.weeks) 0 most_demand demand.0 ((c * n + i) * f.weeks + w) (cube_below x y z)).1;
      price_most = λ c i x y. (range_first 4 s 5 cn 0 most_unit_cost price.0 (c * n + i) (table_below x y)).1;
      backlog_cost_most = λ c i x y. (range_first 4 s 6 cn 0 most_unit_cost costs.0 (c * n + i) (table_below x y)).1;
      inventory_cost_most = λ i x. (range_first 4 s 7 n 0 most_unit_cost costs.1 i x).1;
      storage_ordered = λ i x. (storage_at_lem s n d.0 i x).0;
      storage_most = λ i x. (storage_at_lem s n d.0 i x).1;
      opening_inventory_most = λ i x. (range_first 4 s 9 n 0 most_storage opening.0 i x).1;
      opening_backlog_most =
          λ c i x y. (range_at 4 s 9 n cn 0 (plant_kind f.kind).backlog opening.1 (c * n + i) (table_below x y)).1;
      shortest_least = shortest.0;
      shortest_most = shortest.1;
      week_most = leb-true _ _ time.1;
    }
