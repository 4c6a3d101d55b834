-- Rule 33 in the papers' words: behind rule 31 it is the same test, so every verdict is the same. Assumes nothing.
use Prim.Native.Nat.{ℕ, zero, suc, ◌*◌, ◌<◌, ◌≤◌}
use mathlib.Core.Path.{◌≡◌, refl, sym, ap, ◌∙◌}
use mathlib.Core.Logic.{◌⊎◌, inl, inr}
use mathlib.Core.Bool.{Bool, true, false, ◌&&◌, true≢false}
use native.Mathlib.Omega.{arith}
use native.Mathlib.Nat.{mul-one}
use lib.Dec.{eqb}
use borrow.Author.Tests.{eqb-true, eq-eqb}
use Rattle.mathematics.specs.Below.{sum_below, all_below, is}
use Rattle.mathematics.specs.Week.{one_each, shut, rule31}
use Rattle.mathematics.proofs.Below.{sum_zero, sum_is, term_le_sum, and_both, both_and, all_each}
use Rattle.mathematics.proofs.Sums.{all_equal, equal_all}
use Rattle.mathematics.proofs.Tables.{all_ext, all_grid, grid_all}
use Rattle.mathematics.proofs.WeekRules.{facts31, shut_facts, once_or_shut}
use Rattle.plant_file.specs.Plant.{LinePlant, Plant}
use Rattle.plant_file.specs.Ranges.{LineRanges}
use Rattle.plan_file.specs.Plan.{LinePlan, Plan}
use Rattle.std.specs.Prelude.{None, Some}
use Rattle.costs.specs.Mounted.{Mounted, is_mounted, mounted_below, opening_mounted}
use Rattle.costs.proofs.Changeovers.{opening_below}
use Rattle.rules.specs.Rules.{week_of, production_end, mounted_after, mounted_before, rule33}
use Rattle.rules.specs.Verdict.{trials, tried, verdict_of}
use Rattle.rules.specs.Words.{no_passage, passage_from, passage_words, words33, verdict_in_words}
use Rattle.rules.proofs.Weeks.{end_produces}

-- two tests that follow from each other
same_test : (a b : Bool) → (a ≡ true → b ≡ true) → (b ≡ true → a ≡ true) → a ≡ b
same_test true b f g = sym (f refl)
same_test false true f g = g refl
same_test false false f g = refl

-- sums that are all 0, into each product and out of it, are those of marks that are all 0
no_sums : (N : ℕ) (z : ℕ → ℕ → ℕ) (into out : ℕ → ℕ) → ((j : ℕ) → j < N → into j ≡ 0) → ((i : ℕ) → i < N → out i ≡ 0)
    → (all_below N (λ j. eqb (sum_below N (λ i. z i j)) (into j)) && all_below N (λ i. eqb (sum_below N (λ j. z i j)) (out i)))
    ≡ all_below N (λ i. all_below N (λ j. eqb (z i j) 0))
no_sums N z into out e g =
    same_test _ (all_below N (λ i. all_below N (λ j. eqb (z i j) 0)))
    (λ h.
    let r = and_both (all_below N (λ j. eqb (sum_below N (λ i. z i j)) (into j))) (all_below N (λ i. eqb (sum_below N (λ j. z i j)) (out i))) h in
    grid_all N N (λ i j. eqb (z i j) 0) (λ i j l m. eq-eqb (z i j) 0
    (omega (arith, all_equal N (λ i. sum_below N (λ j. z i j)) out r.1 i l, g i l, term_le_sum N (λ j. z i j) j m))))
    (λ h.
    let none : (i j : ℕ) → i < N → j < N → z i j ≡ 0 = λ i j l m. eqb-true (z i j) 0 (all_grid N N (λ i j. eqb (z i j) 0) h i j l m) in
    both_and _ _
    (equal_all N (λ j. sum_below N (λ i. z i j)) into (λ j m. sum_zero N (λ i. z i j) (λ i l. none i j l m) ∙ sym (e j m)))
    (equal_all N (λ i. sum_below N (λ j. z i j)) out (λ i l. sum_zero N (λ j. z i j) (λ j m. none i j l m) ∙ sym (g i l))))

-- a producing week has one first product and one last
producing : (N : ℕ) (x : LinePlan) (w : ℕ) → rule31 N (week_of x w) ≡ true → shut N (week_of x w) ≡ false
    → (sum_below N (x.first w) ≡ 1) × (sum_below N (x.last w) ≡ 1)
unfolding week_of
producing N x w r e = go (once_or_shut N (week_of x w) r)
  where
    go : (one_each N (week_of x w) ≡ true) ⊎ (shut N (week_of x w) ≡ true) → (sum_below N (x.first w) ≡ 1) × (sum_below N (x.last w) ≡ 1)
    go (inl h) = let f = facts31 N (week_of x w) h in (f.0.0, f.1.0)
    go (inr h) = absurd (true≢false (sym h ∙ e))

module _ (N : ℕ) (line : LinePlant) (x : LinePlan) (w : ℕ) where
  -- no first product, or nothing mounted
  none_words : ((j : ℕ) → j < N → x.first w j * sum_below N (mounted_before N line x w) ≡ 0)
      → ((i : ℕ) → i < N → mounted_before N line x w i * sum_below N (x.first w) ≡ 0) → rule33 N line x w ≡ no_passage N x w
  unfolding rule33
  none_words e g =
      no_sums N (x.week_changeover w) (λ j. x.first w j * sum_below N (mounted_before N line x w))
      (λ i. mounted_before N line x w i * sum_below N (x.first w)) e g

  shut_words : shut N (week_of x w) ≡ true → rule33 N line x w ≡ no_passage N x w
  unfolding week_of
  shut_words h =
      let none = (shut_facts N (week_of x w) h).1 in
      none_words
      (λ j m. let z : x.first w j ≡ 0 = omega (arith, none, term_le_sum N (x.first w) j m) in rw z (omega arith))
      (λ i l. rw none (omega arith))

  nothing_words : ((i : ℕ) → mounted_before N line x w i ≡ 0) → rule33 N line x w ≡ no_passage N x w
  nothing_words nothing =
      none_words
      (λ j m. rw (sum_zero N (mounted_before N line x w) (λ i l. nothing i)) (omega arith))
      (λ i l. rw (nothing i) (omega arith))

  -- one first product, and one that is mounted before
  from_words : (from : ℕ → ℕ) → ((i : ℕ) → mounted_before N line x w i ≡ from i) → sum_below N (x.first w) ≡ 1 → sum_below N from ≡ 1
      → rule33 N line x w ≡ passage_from N x from w
  unfolding rule33
  from_words from e a b =
      (λ u.
      all_below N (λ j. eqb (sum_below N (λ i. x.week_changeover w i j)) (x.first w j * sum_below N (λ i. e i u)))
      && all_below N (λ i. eqb (sum_below N (λ j. x.week_changeover w i j)) (e i u * sum_below N (x.first w))))
      ∙ (λ u.
      all_below N (λ j. eqb (sum_below N (λ i. x.week_changeover w i j)) ((ap (λ (n : ℕ). x.first w j * n) b ∙ mul-one (x.first w j)) u))
      && all_below N (λ i. eqb (sum_below N (λ j. x.week_changeover w i j)) ((ap (λ (n : ℕ). from i * n) a ∙ mul-one (from i)) u)))

  -- what is mounted before the week: a later week's last product, or what the line begins with
  after_end : (n : ℕ) → production_end N x w ≡ n → (i : ℕ) → mounted_before N line x w i ≡ mounted_after line x n i
  unfolding mounted_before
  after_end n e i = ap (λ (k : ℕ). mounted_after line x k i) e

  at_opening : (m : Mounted) → opening_mounted line ≡ m → production_end N x w ≡ 0 → (i : ℕ) → mounted_before N line x w i ≡ is_mounted m i
  unfolding mounted_after
  at_opening m o e i = after_end 0 e i ∙ ap (λ (k : Mounted). is_mounted k i) o

  -- behind rule 31
  pub words_33 : mounted_below N (opening_mounted line) → ((v : ℕ) → v ≤ w → rule31 N (week_of x v) ≡ true) → rule33 N line x w ≡ words33 N line x w
  unfolding mounted_after
  words_33 below r = go (shut N (week_of x w)) refl (production_end N x w) refl (opening_mounted line) refl below
    where
      go : (t : Bool) → shut N (week_of x w) ≡ t → (n : ℕ) → production_end N x w ≡ n → (m : Mounted) → opening_mounted line ≡ m → mounted_below N m
          → rule33 N line x w ≡ passage_words N x w t n m
      go true s n e m o b = shut_words s
      go false s zero e None o b = nothing_words (at_opening None o e)
      go false s zero e (Some p) o b =
          from_words (is p) (at_opening (Some p) o e) (producing N x w (r w (omega arith)) s).0 (sum_is N p b)
      go false s (suc v) e m o b =
          let earlier = end_produces N x w v e in
          from_words (x.last v) (after_end (suc v) e) (producing N x w (r w (omega arith)) s).0
          (producing N x v (r v (omega (arith, earlier.0))) earlier.1).1

-- the verdict is the same for every plan
pub same_verdict : (P : Plant) → LineRanges P.products P.line → (x : Plan) → verdict_of P x ≡ verdict_in_words P x
unfolding verdict_of verdict_in_words trials tried
same_verdict P R x = go (all_below P.weeks (λ w. rule31 P.products (week_of x.line w))) refl
  where
    go : (t : Bool) → all_below P.weeks (λ w. rule31 P.products (week_of x.line w)) ≡ t → verdict_of P x ≡ verdict_in_words P x
    go true e = rw (all_ext P.weeks (rule33 P.products P.line x.line) (words33 P.products P.line x.line)
        (λ w l. words_33 P.products P.line x.line w (opening_below P.products P.line R) (λ v h. all_each P.weeks _ e v (omega arith))))
    go false e = rw e
