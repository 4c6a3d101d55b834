-- Two plant files with the same numbers, but for whether the week before was shut, give a plan the same verdict. Assumes nothing.
use Prim.Native.Nat.{ℕ, zero, suc, ◌+◌, ◌*◌, ◌<◌}
use mathlib.Core.Path.{◌≡◌, refl}
use mathlib.Core.Bool.{cond}
use mathlib.Core.List.{List}
use lib.Dec.{eqb, leb}
use lib.IntN.{pos, ◌-ℤ◌}
use Rattle.mathematics.specs.Below.{sum_below, within}
use Rattle.mathematics.proofs.Below.{sum_ext}
use Rattle.mathematics.proofs.Tables.{all_ext}
use Rattle.sections.specs.declared.Shape.{Shape}
use Rattle.sections.specs.Limits.{nothing_mounted}
use Rattle.plant_file.specs.Same.{SamePlant}
use Rattle.plant_file.specs.Plant.{Plant, plant_of}
use Rattle.plan_file.specs.Plan.{Plan}
use Rattle.std.specs.Prelude.{None, Some}
use Rattle.costs.specs.Mounted.{is_mounted, opening_mounted}
use Rattle.costs.specs.Changeover.{changeover_between}
use Rattle.costs.specs.Money.{changeover_charge_of}
use Rattle.rules.specs.Rules.{production_end, mounted_after, mounted_before, changeovers_under, changeovers_in, backlog_before, inventory_before}
use Rattle.rules.specs.Rules.{revenue_in, changeover_charge_in, backlog_charge_in, inventory_charge_in, profit_of, same_integer}
use Rattle.rules.specs.Rules.{rule33, rule35, rule36, rule37, rule38, rule39, rule40, rule41}
use Rattle.rules.specs.Verdict.{trials, tried, profit_tried, verdict_of}
use Rattle.model.proofs.Grids.{grid_ext}

module _ (f : Shape) (a b : List ℕ) (same : SamePlant (plant_of f a) (plant_of f b)) (x : Plan) where
  abbrev P : Plant
  P = plant_of f a

  abbrev Q : Plant
  Q = plant_of f b

  abbrev N : ℕ
  N = f.products

  -- ---- what stands before a week: the opening, or the plan's own tables
  pub mounted_same : (n : ℕ) → mounted_after P.line x.line n ≡ mounted_after Q.line x.line n
  unfolding mounted_after opening_mounted
  mounted_same zero = λ u i. is_mounted (cond (eqb (same.mounted u) nothing_mounted) None (Some (same.mounted u))) i
  mounted_same (suc w) = refl

  pub backlog_before_same : (w c i : ℕ) → c < f.customers → i < N → backlog_before P x w c i ≡ backlog_before Q x w c i
  unfolding backlog_before
  backlog_before_same zero c i j k = same.opening_backlog c i j k
  backlog_before_same (suc w) c i j k = refl

  pub inventory_before_same : (w i : ℕ) → i < N → inventory_before P x w i ≡ inventory_before Q x w i
  unfolding inventory_before
  inventory_before_same zero i k = same.opening_inventory i k
  inventory_before_same (suc w) i k = refl

  -- ---- the changeovers of a week, under two tables that are equal within the products
  module _ (s t : ℕ → ℕ → ℕ) (h : (i j : ℕ) → i < N → j < N → s i j ≡ t i j) where
    under_same : (marks : ℕ → ℕ → ℕ) → changeovers_under N s marks ≡ changeovers_under N t marks
    unfolding changeovers_under changeover_between
    under_same marks = grid_ext N N _ _ (λ i j k l u. marks i j * h i j k l u)

    changeovers_same : (w : ℕ) → changeovers_in N s x.line w ≡ changeovers_in N t x.line w
    unfolding changeovers_in
    changeovers_same w = λ u. under_same (x.line.changeover w) u + under_same (x.line.week_changeover w) u

  -- ---- the rules of a week
  module _ (w : ℕ) (l : w < f.weeks) where
    same33 : rule33 N P.line x.line w ≡ rule33 N Q.line x.line w
    unfolding rule33 mounted_before
    same33 = rw (mounted_same (production_end N x.line w))

    same35 : rule35 N P.shortest_run P.week_minutes x.line w ≡ rule35 N Q.shortest_run Q.week_minutes x.line w
    same35 = λ u. rule35 N (same.shortest_run u) (same.week_minutes u) x.line w

    same36 : rule36 N P.week_minutes P.line x.line w ≡ rule36 N Q.week_minutes Q.line x.line w
    unfolding rule36
    same36 = λ u. leb (sum_below N (x.line.minutes w) + changeovers_same _ _ same.changeover_minutes w u) (same.week_minutes u)

    same37 : rule37 P x w ≡ rule37 Q x w
    unfolding rule37
    same37 = all_ext N _ _ (λ i k u. eqb (x.production w i) (same.rate i k u * x.line.minutes w i))

    same38 : rule38 P x w ≡ rule38 Q x w
    unfolding rule38
    same38 =
        all_ext f.customers _ _ (λ c j. all_ext N _ _ (λ i k u.
        eqb (x.backlog c i w + x.sales c i w) (backlog_before_same w c i j k u + same.demand c i w j k l u)))

    same39 : rule39 P x w ≡ rule39 Q x w
    unfolding rule39
    same39 =
        let sold : ℕ → ℕ = λ i. sum_below f.customers (λ c. x.sales c i w) in
        all_ext N _ _ (λ i k u. eqb (x.inventory w i + sold i) (inventory_before_same w i k u + x.production w i))

    same40 : rule40 P x w ≡ rule40 Q x w
    unfolding rule40
    same40 = all_ext N _ _ (λ i k u. within (same.least_storage i k u) (same.greatest_storage i k u) (x.inventory w i))

  -- ---- the rule of all weeks, and the verdict
  same41 : rule41 P x ≡ rule41 Q x
  unfolding rule41 profit_of revenue_in changeover_charge_in backlog_charge_in inventory_charge_in
  same41 =
      let sales = sum_ext f.weeks (revenue_in P x) (revenue_in Q x) (λ w l.
      grid_ext f.customers N _ _ (λ c i j k u. same.price c i j k u * x.sales c i w)) in
      let changeovers = sum_ext f.weeks (changeover_charge_in P x) (changeover_charge_in Q x) (λ w l u.
      changeover_charge_of (changeovers_same _ _ same.changeover_cents w u)) in
      let backlog = sum_ext f.weeks (backlog_charge_in P x) (backlog_charge_in Q x) (λ w l.
      grid_ext f.customers N _ _ (λ c i j k u. same.backlog_cost c i j k u * x.backlog c i w)) in
      let inventory = sum_ext f.weeks (inventory_charge_in P x) (inventory_charge_in Q x) (λ w l.
      sum_ext N _ _ (λ i k u. same.inventory_cost i k u * x.inventory w i)) in
      λ u. same_integer x.profit (pos (sales u) -ℤ pos (changeovers u) -ℤ pos (backlog u) -ℤ pos (inventory u))

  pub verdict_same : verdict_of P x ≡ verdict_of Q x
  unfolding verdict_of trials tried profit_tried
  verdict_same =
      rw (
        all_ext f.weeks _ _ same33,
        all_ext f.weeks _ _ same35,
        all_ext f.weeks _ _ same36,
        all_ext f.weeks _ _ same37,
        all_ext f.weeks _ _ same38,
        all_ext f.weeks _ _ same39,
        all_ext f.weeks _ _ same40,
        same41,
      )
