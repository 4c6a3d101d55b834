-- A rule in a week is the rule at each of its products; rule 38 and the market over all weeks are those of each pair. Assumes nothing.
use Prim.Native.Nat.{ℕ, ◌+◌, ◌*◌, ◌/◌, ◌%◌, ◌<◌}
use mathlib.Core.Path.{◌≡◌, sym, ap, ◌∙◌}
use mathlib.Core.Bool.{Bool, ◌&&◌}
use lib.Dec.{eqb}
use Rattle.mathematics.specs.Below.{sum_below, all_below}
use Rattle.mathematics.specs.Week.{rule32, rule34}
use Rattle.mathematics.proofs.Tables.{all_ext, all_both, all_swap, all_table}
use Rattle.plant_file.specs.Plant.{LinePlant, Plant}
use Rattle.plan_file.specs.Plan.{LinePlan, Plan}
use Rattle.rules.specs.Rules.{week_of, mounted_before, backlog_at, rule33, rule38}
use Rattle.rules.specs.Products.{sequence_at, passage_at, position_at, follows_at}

module _ (N : ℕ) (x : LinePlan) (w : ℕ) (into out : ℕ → ℕ) where
  pub sequence_week : ((j : ℕ) → j < N → into j ≡ sum_below N (λ i. x.changeover w i j)) → ((i : ℕ) → i < N → out i ≡ sum_below N (x.changeover w i))
      → all_below N (λ i. sequence_at (into i) (out i) x w i) ≡ rule32 N (week_of x w)
  unfolding rule32 week_of sequence_at
  sequence_week e g =
      all_ext N _ (λ i. sequence_at (sum_below N (λ h. x.changeover w h i)) (sum_below N (x.changeover w i)) x w i)
      (λ i l. λ u. sequence_at (e i l u) (g i l u) x w i)
      ∙ sym (ap (λ (b : Bool). b && all_below N (λ i. eqb (sum_below N (x.changeover w i) + x.last w i) (x.assigned w i))) (all_both N _ _)
      ∙ all_both N _ _)

  pub passages_week : (l : LinePlant) → ((j : ℕ) → j < N → into j ≡ sum_below N (λ i. x.week_changeover w i j))
      → ((i : ℕ) → i < N → out i ≡ sum_below N (x.week_changeover w i))
      → all_below N (λ i. passage_at (into i) (out i) (mounted_before N l x w i) (sum_below N (mounted_before N l x w)) (sum_below N (x.first w)) x w i)
      ≡ rule33 N l x w
  unfolding rule33 passage_at
  passages_week line e g =
      let before = mounted_before N line x w in
      let mounted = sum_below N before in
      let firsts = sum_below N (x.first w) in
      all_ext N _ (λ i. passage_at (sum_below N (λ h. x.week_changeover w h i)) (sum_below N (x.week_changeover w i)) (before i) mounted firsts x w i)
      (λ i l. λ u. passage_at (e i l u) (g i l u) (before i) mounted firsts x w i)
      ∙ sym (all_both N _ _)

pub positions_week : (N : ℕ) (x : LinePlan) (w : ℕ)
    → rule34 N (week_of x w) ≡ all_below N (λ i. position_at (sum_below N (x.assigned w)) x w i && all_below N (follows_at x w i))
unfolding rule34 week_of position_at
positions_week N x w = all_both N _ _

-- weeks inside
pub backlog_weeks : (P : Plant) (x : Plan) (W : ℕ)
    → all_below (P.customers * P.products) (λ k. all_below W (backlog_at P x (k / P.products) (k % P.products))) ≡ all_below W (rule38 P x)
unfolding rule38
backlog_weeks P x W =
    sym (all_table P.customers P.products (λ c i. all_below W (backlog_at P x c i)))
    ∙ all_ext P.customers _ _ (λ c l. all_swap P.products W (backlog_at P x c))
    ∙ all_swap P.customers W (λ c w. all_below P.products (λ i. backlog_at P x c i w))
