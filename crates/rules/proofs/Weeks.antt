-- The first week and the later ones, where a rule looks at the weeks before. Assumes nothing.
use Prim.Native.Nat.{ℕ, zero, suc, ◌-◌, ◌<◌, ◌≤◌}
use mathlib.Core.Path.{◌≡◌, refl, sym, ap}
use mathlib.Core.Bool.{Bool, true, false, cond}
use native.Mathlib.Omega.{arith}
use native.Mathlib.Decide.{ℕ_discrete}
use Rattle.mathematics.specs.Week.{shut}
use Rattle.plant_file.specs.Plant.{LinePlant, Plant}
use Rattle.plan_file.specs.Plan.{LinePlan, Plan}
use Rattle.costs.specs.Mounted.{is_mounted, opening_mounted}
use Rattle.rules.specs.Rules.{week_of, production_end, mounted_after, mounted_before, inventory_before}

before : (w : ℕ) → suc w - 1 ≡ w
before w = omega arith

module _ (l : LinePlant) (x : LinePlan) where
  pub mounted_first : (w i : ℕ) → w ≡ 0 → mounted_after l x w i ≡ is_mounted (opening_mounted l) i
  unfolding mounted_after
  mounted_first zero i e = refl
  mounted_first (suc w) i e = absurd (omega arith)

  pub mounted_later : (w i : ℕ) → 1 ≤ w → mounted_after l x w i ≡ x.last (w - 1) i
  unfolding mounted_after
  mounted_later zero i h = absurd (omega arith)
  mounted_later (suc w) i h = rw (before w)

-- the last producing week before: the week before, or the one before a shut week
module _ (N : ℕ) (x : LinePlan) where
  pub end_none : (w : ℕ) → w ≡ 0 → production_end N x w ≡ 0
  unfolding production_end
  end_none zero e = refl
  end_none (suc w) e = absurd (omega arith)

  pub end_here : (w : ℕ) → 1 ≤ w → shut N (week_of x (w - 1)) ≡ false → production_end N x w ≡ w
  unfolding production_end
  end_here zero h e = absurd (omega arith)
  end_here (suc w) h e = let s : shut N (week_of x w) ≡ false = rw (before w) at e in rw s

  pub end_shut : (w : ℕ) → 1 ≤ w → shut N (week_of x (w - 1)) ≡ true → production_end N x w ≡ production_end N x (w - 1)
  unfolding production_end
  end_shut zero h e = absurd (omega arith)
  end_shut (suc w) h e = let s : shut N (week_of x w) ≡ true = rw (before w) at e in rw (s, before w)

  -- it lies before the week, and is not shut
  pub end_produces : (w v : ℕ) → production_end N x w ≡ suc v → (v < w) × (shut N (week_of x v) ≡ false)
  unfolding production_end
  end_produces zero v e = absurd (omega arith)
  end_produces (suc w) v e = go (shut N (week_of x w)) refl e (end_produces w v)
    where
      go : (t : Bool) → shut N (week_of x w) ≡ t → cond t (production_end N x w) (suc w) ≡ suc v
          → (production_end N x w ≡ suc v → (v < w) × (shut N (week_of x v) ≡ false)) → (v < suc w) × (shut N (week_of x v) ≡ false)
      go true q k earlier = let r = earlier k in (omega (arith, r.0), r.1)
      go false q k earlier = let s : w ≡ v = omega arith in (omega arith, rw s at q)

  -- found: a producing week before shut weeks alone, or no producing week at all
  pub end_over : (v w : ℕ) → v < w → shut N (week_of x v) ≡ false → ((u : ℕ) → v < u → u < w → shut N (week_of x u) ≡ true) → production_end N x w ≡ suc v
  unfolding production_end
  end_over v zero l e h = absurd (omega arith)
  end_over v (suc w) l e h = elim (ℕ_discrete v w) [
    | yes s ↦ (let q : shut N (week_of x w) ≡ false = rw s at e in rw q (ap suc (sym s)))
    | no d ↦ rw (h w (omega arith) (omega arith)) (end_over v w (omega arith) e (λ u a b. h u a (omega arith)))
  ]

  pub end_opening : (w : ℕ) → ((u : ℕ) → u < w → shut N (week_of x u) ≡ true) → production_end N x w ≡ 0
  unfolding production_end
  end_opening zero h = refl
  end_opening (suc w) h = rw (h w (omega arith)) (end_opening w (λ u l. h u (omega arith)))

  -- what is mounted before the next week: over a shut week the same, else the week's last product
  pub mounted_next : (l : LinePlant) (w i : ℕ) → mounted_before N l x (suc w) i ≡ cond (shut N (week_of x w)) (mounted_before N l x w i) (x.last w i)
  unfolding mounted_before mounted_after production_end
  mounted_next l w i = go (shut N (week_of x w))
    where
      go : (t : Bool) → mounted_after l x (cond t (production_end N x w) (suc w)) i ≡ cond t (mounted_before N l x w i) (x.last w i)
      go true = refl
      go false = refl

module _ (P : Plant) (x : Plan) where
  pub inventory_first : (w i : ℕ) → w ≡ 0 → inventory_before P x w i ≡ P.opening_inventory i
  unfolding inventory_before
  inventory_first zero i e = refl
  inventory_first (suc w) i e = absurd (omega arith)

  pub inventory_later : (w i : ℕ) → 1 ≤ w → inventory_before P x w i ≡ x.inventory (w - 1) i
  unfolding inventory_before
  inventory_later zero i h = absurd (omega arith)
  inventory_later (suc w) i h = rw (before w)
