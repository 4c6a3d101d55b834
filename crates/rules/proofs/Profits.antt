-- Signed money: a profit is compared exactly, and the profit is what is gained less what is lost. Assumes nothing.
use Prim.Native.Nat.{ℕ, zero, suc, ◌+◌, ◌*◌, ◌/◌, ◌%◌, ◌-◌, ◌^◌, ◌<◌}
use mathlib.Core.Path.{◌≡◌, refl, sym, ap, ◌∙◌}
use mathlib.Core.Bool.{Bool, true, false, cond}
use mathlib.Core.List.{List}
use native.Mathlib.Omega.{arith}
use borrow.Author.Tests.{eq-eqb, ne_eqb}
use lib.Dec.{eqb, ltb}
use lib.IntN.{ℤ, pos, negsuc, ◌-ℤ◌, ℤ_discrete}
use lib.Signed.{mag}
use mir.Syntax.{w64}
use mir.Val.{SFits, to_z, of_z}
use mir.ValLaws.{to_z-of_z}
use Rattle.mathematics.specs.Below.{sum_below}
use Rattle.mathematics.proofs.Tables.{sum_priced}
use Rattle.numbers.specs.Number.{Bytes}
use Rattle.sections.specs.declared.Shape.{Shape}
use Rattle.std.specs.Prelude.{Ok}
use Rattle.plant_file.specs.Plant.{Plant}
use Rattle.plan_file.specs.Plan.{Plan, plan_of}
use Rattle.plan_file.specs.Form.{plan_form}
use Rattle.plan_file.proofs.PlanReads.{plan_fits}
use Rattle.units.proofs.Signed.{lose_lose}
use Rattle.rules.specs.Rules.{same_integer, revenue_in, changeover_charge_in, backlog_charge_in, inventory_charge_in, profit_of, rule41}

-- ---- the difference of two numbers below 2 ^ 63
pos_back : (n : ℕ) → n < 2 ^ 63 → to_z w64 n ≡ pos n
pos_back n h = to_z-of_z w64 (pos n) (record { sfits = h })

cond_small : (a b : ℕ) (t : Bool) → a < 2 ^ 63 → b < 2 ^ 63 → mag (cond t (negsuc (suc b - suc a)) (pos (a - suc b))) < 2 ^ 63
cond_small a b true h k = omega arith
cond_small a b false h k = omega arith

difference_fits : (a b : ℕ) → a < 2 ^ 63 → b < 2 ^ 63 → SFits w64 (pos a -ℤ pos b)
difference_fits a zero h k = record { sfits = omega arith }
difference_fits a (suc b) h k = record { sfits = cond_small a b (ltb a (suc b)) h (omega arith) }

-- ---- equal integers
pub same_yes : (a : ℤ) → same_integer a a ≡ true
same_yes (pos a) = eq-eqb a a refl
same_yes (negsuc a) = eq-eqb a a refl

same_no : (a b : ℤ) → (a ≡ b → ⊥) → same_integer a b ≡ false
same_no (pos a) (pos b) d = ne_eqb a b (λ e. d (ap pos e))
same_no (pos a) (negsuc b) d = refl
same_no (negsuc a) (pos b) d = refl
same_no (negsuc a) (negsuc b) d = ne_eqb a b (λ e. d (ap negsuc e))

same_bits : (a b : ℤ) → SFits w64 a → SFits w64 b → eqb (of_z w64 a) (of_z w64 b) ≡ same_integer a b
same_bits a b f g = elim (ℤ_discrete a b) [
  | yes e ↦ eq-eqb (of_z w64 a) (of_z w64 b) (ap (of_z w64) e) ∙ sym (ap (λ (z : ℤ). same_integer z b) e ∙ same_yes b)
  | no d ↦ ne_eqb (of_z w64 a) (of_z w64 b) (λ e. d (sym (to_z-of_z w64 a f) ∙ (ap (to_z w64) e ∙ to_z-of_z w64 b g))) ∙ sym (same_no a b d)
]

-- a plan's profit, passed on as bits
pub profit_back : (f : Shape) (s : List ℕ) {r : ℤ} → Bytes s → plan_form f s ≡ Ok f → r ≡ (plan_of f s).profit
    → to_z w64 (of_z w64 r) ≡ (plan_of f s).profit
profit_back f s b h e = ap (λ (z : ℤ). to_z w64 (of_z w64 z)) e ∙ to_z-of_z w64 _ (plan_fits f s b h).profit

-- what is computed of a profit z, a gain a and a loss b
module _ (z : ℤ) (a b : ℕ) (h : a < 2 ^ 63) (k : b < 2 ^ 63) where
  pub lost_fits : SFits w64 (to_z w64 a -ℤ to_z w64 b)
  lost_fits = rw (pos_back a h, pos_back b k) (difference_fits a b h k)

  pub profit_same : SFits w64 z → eqb (of_z w64 z) (of_z w64 (to_z w64 a -ℤ to_z w64 b)) ≡ same_integer z (pos a -ℤ pos b)
  profit_same f = rw (pos_back a h, pos_back b k) (same_bits z (pos a -ℤ pos b) f (difference_fits a b h k))

-- ---- the profit over all weeks
-- what is gained, less the three sums lost
pub profit_sums : (P : Plant) (x : Plan) (n : ℕ)
    → profit_of P x n ≡ pos (sum_below n (revenue_in P x))
    -ℤ pos (sum_below n (changeover_charge_in P x) + sum_below n (inventory_charge_in P x) + sum_below n (backlog_charge_in P x))
unfolding profit_of
profit_sums P x n =
    let gained = pos (sum_below n (revenue_in P x)) in
    let over = sum_below n (changeover_charge_in P x) in
    let late = sum_below n (backlog_charge_in P x) in
    let held = sum_below n (inventory_charge_in P x) in
    let e : over + late + held ≡ over + held + late = omega arith in
    rw (lose_lose gained over late, lose_lose gained (over + late) held, e)

-- rule 41, by what is gained and lost
pub rule41_is : (P : Plant) (x : Plan) (z : ℤ) (a b : ℕ) → z ≡ x.profit → a ≡ sum_below P.weeks (revenue_in P x)
    → b ≡ sum_below P.weeks (changeover_charge_in P x) + sum_below P.weeks (inventory_charge_in P x) + sum_below P.weeks (backlog_charge_in P x)
    → same_integer z (pos a -ℤ pos b) ≡ rule41 P x
unfolding rule41
rule41_is P x z a b p g l = (λ u. same_integer (p u) (pos (g u) -ℤ pos (l u))) ∙ ap (same_integer x.profit) (sym (profit_sums P x P.weeks))

-- the market over all weeks, pair by pair
module _ (P : Plant) (x : Plan) where
  pub sales_by_pair : sum_below P.weeks (revenue_in P x)
      ≡ sum_below (P.customers * P.products) (λ k.
      P.price (k / P.products) (k % P.products) * sum_below P.weeks (x.sales (k / P.products) (k % P.products)))
  unfolding revenue_in
  sales_by_pair = sum_priced P.weeks P.customers P.products P.price x.sales

  pub backlog_by_pair : sum_below P.weeks (backlog_charge_in P x)
      ≡ sum_below (P.customers * P.products) (λ k.
      P.backlog_cost (k / P.products) (k % P.products) * sum_below P.weeks (x.backlog (k / P.products) (k % P.products)))
  unfolding backlog_charge_in
  backlog_by_pair = sum_priced P.weeks P.customers P.products P.backlog_cost x.backlog
