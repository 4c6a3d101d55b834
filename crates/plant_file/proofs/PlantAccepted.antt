-- NUMBERS WITHIN THE PAPER'S RANGES ARE NEVER REFUSED: the converse of `plant_ranges`. Assumes nothing.
use Prim.Native.Nat.{ℕ, ◌+◌, ◌*◌, ◌≤◌, ◌<◌}
use mathlib.Core.Path.{◌≡◌, refl}
use mathlib.Core.Logic.{◌⊎◌, inl, inr}
use mathlib.Core.Bool.{Bool, true, false, ◌||◌}
use mathlib.Core.List.{List}
use native.Mathlib.Omega.{arith}
use native.Mathlib.Nat.{zero-add}
use lib.Dec.{ltb}
use borrow.Author.Tests.{le-leb, lt-ltb, eq-eqb}
use Rattle.mathematics.proofs.Below.{both_and, each_all, at_within}
use Rattle.mathematics.proofs.Lists.{flat_each, flat_each3}
use Rattle.contents.specs.Contents.{cell, sized}
use Rattle.sections.specs.Section.{in_range, diagonal_zero}
use Rattle.sections.specs.declared.Shape.{Shape}
use Rattle.std.specs.Prelude.{Ok}
use Rattle.sections.specs.Limits.{most_demand, nothing_mounted}
use Rattle.plant_file.specs.Plant.{line_of, plant_of, rate_in, changeover_minutes_in, changeover_cents_in, demand_in, price_in, backlog_cost_in}
use Rattle.plant_file.specs.Plant.{inventory_cost_in, least_storage_in, greatest_storage_in, opening_inventory_in, opening_backlog_in, shortest_run_in, week_minutes_in}
use Rattle.plant_file.specs.Plant.{mounted_in}
use Rattle.plant_file.specs.Form.{shape_of, plant_headed, laid_out, in_limits, plant_lengths, diagonals_in_range, mounted_known, mounted_in_range}
use Rattle.plant_file.specs.Form.{line_in_range, market_in_range, storage_in_range, opening_in_range, time_in_range, plant_in_range, plant_form}
use Rattle.plant_file.specs.Ranges.{LineRanges, PlantRanges}
use Rattle.plant_file.proofs.PlantKinds.{kind_diagonals}

-- ---- the tests of a section, from its numbers
module _ (k : ℕ) (s : List ℕ) (i lo hi : ℕ) where
  range_is : (from m : ℕ) → ((j : ℕ) → j < m → (lo ≤ cell k s i (from + j)) × (cell k s i (from + j) ≤ hi)) → in_range k s i from m lo hi ≡ true
  unfolding in_range
  range_is from m h = each_all m _ (λ j l. at_within lo hi (cell k s i (from + j)) (h j l).0 (h j l).1)

  first_is : (m : ℕ) → ((j : ℕ) → j < m → (lo ≤ cell k s i j) × (cell k s i j ≤ hi)) → in_range k s i 0 m lo hi ≡ true
  first_is m h = range_is 0 m (λ j l. rw zero-add (h j l))

  table_is : (m n : ℕ) → ((a b : ℕ) → a < m → b < n → (lo ≤ cell k s i (a * n + b)) × (cell k s i (a * n + b) ≤ hi))
      → in_range k s i 0 (m * n) lo hi ≡ true
  table_is m n h = first_is (m * n) (flat_each (λ j. (lo ≤ cell k s i j) × (cell k s i j ≤ hi)) m n h)

diagonal_is : (k : ℕ) (s : List ℕ) (i n : ℕ) → ((j : ℕ) → j < n → cell k s i (j * n + j) ≡ 0) → diagonal_zero k s i n ≡ true
unfolding diagonal_zero
diagonal_is k s i n h = each_all n _ (λ j l. eq-eqb _ _ (h j l))

or-true : (a : Bool) → (a || true) ≡ true
or-true true = refl
or-true false = refl

known_is : (N m : ℕ) → (m < N) ⊎ (m ≡ nothing_mounted) → mounted_known N m ≡ true
unfolding mounted_known
known_is N m (inl h) = rw (lt-ltb m N h) refl
known_is N m (inr h) = rw (eq-eqb m nothing_mounted h) (or-true (ltb m N))

-- ---- row 5
line_is : (s : List ℕ) (f : Shape) → LineRanges f.products (line_of f s) → line_in_range s f ≡ true
unfolding line_in_range diagonals_in_range mounted_in_range rate_in changeover_minutes_in changeover_cents_in
line_is s f R =
    let n = f.products in
    both_and _ _ (first_is 4 s 1 _ _ n (λ i l. (R.rate_least i l, R.rate_most i l)))
    (both_and _ _ (table_is 2 s 2 _ _ n n (λ i j l m. (omega arith, R.minutes_most i j l m)))
    (both_and _ _ (table_is 4 s 3 _ _ n n (λ i j l m. (omega arith, R.cents_most i j l m)))
    (both_and (diagonals_in_range s f) _
    (rw (kind_diagonals f.kind) (both_and _ _ (diagonal_is 2 s 2 n R.minutes_diagonal) (diagonal_is 4 s 3 n R.cents_diagonal)))
    (both_and _ _ (le-leb _ _ R.shut_before_most) (known_is n (mounted_in f s) R.mounted_known_lem)))))

ranges_pass : (s : List ℕ) (f : Shape) → PlantRanges (plant_of f s) → plant_in_range s f ≡ true
unfolding plant_in_range market_in_range storage_in_range opening_in_range time_in_range demand_in price_in backlog_cost_in inventory_cost_in least_storage_in
    greatest_storage_in opening_inventory_in opening_backlog_in shortest_run_in week_minutes_in
ranges_pass s f R =
    let n = f.products in
    let c = f.customers in
    let wanted = flat_each3 (λ j. (0 ≤ cell 4 s 4 j) × (cell 4 s 4 j ≤ most_demand)) c n f.weeks
    (λ h i j x y z. (omega arith, R.demand_most h i j x y z)) in
    let owed = flat_each (λ j. (0 ≤ cell 4 s 9 (n + j)) × (cell 4 s 9 (n + j) ≤ _)) c n
    (λ h i x y. (omega arith, R.opening_backlog_most h i x y)) in
    both_and _ _ (line_is s f R.line)
    (both_and _ _
    (both_and _ _ (first_is 4 s 4 _ _ (c * n * f.weeks) wanted)
    (both_and _ _ (table_is 4 s 5 _ _ c n (λ h i x y. (omega arith, R.price_most h i x y)))
    (both_and _ _ (table_is 4 s 6 _ _ c n (λ h i x y. (omega arith, R.backlog_cost_most h i x y)))
    (first_is 4 s 7 _ _ n (λ i x. (omega arith, R.inventory_cost_most i x))))))
    (both_and _ _ (each_all n _ (λ i x. both_and _ _ (le-leb _ _ (R.storage_ordered i x)) (le-leb _ _ (R.storage_most i x))))
    (both_and _ _
    (both_and _ _ (first_is 4 s 9 _ _ n (λ i x. (omega arith, R.opening_inventory_most i x))) (range_is 4 s 9 _ _ n (c * n) owed))
    (both_and _ _ (at_within _ _ _ R.shortest_least R.shortest_most) (le-leb _ _ R.week_most)))))

limits_pass : (f : Shape) (s : List ℕ) → PlantRanges (plant_of f s) → in_limits f ≡ true
unfolding in_limits
limits_pass f s R =
    both_and _ _ (at_within _ _ _ R.products_least R.products_most)
    (both_and _ _ (at_within _ _ _ R.customers_least R.customers_most) (at_within _ _ _ R.weeks_least R.weeks_most))

-- a file past rows 1, 2 and 4 whose numbers are in their ranges
pub plant_accepted : (s : List ℕ) → plant_headed s ≡ true → laid_out s ≡ true → sized s (plant_lengths (shape_of s)) ≡ true
    → PlantRanges (plant_of (shape_of s) s) → plant_form s ≡ Ok (shape_of s)
unfolding plant_form
plant_accepted s h l z R = rw (h, l, limits_pass (shape_of s) s R, z, ranges_pass s (shape_of s) R)
