-- Rule 33 in the papers' words, shut weeks and the first producing week apart from the others, and the verdict with it. Assumes nothing.
use Rattle.std.specs.Prelude.{ℕ, zero, suc, Bool, true, false, ◌&&◌, cond, List, [], ◌∷◌, eqb}
use Rattle.mathematics.specs.Below.{sum_below, all_below, is}
use Rattle.mathematics.specs.Week.{shut}
use Rattle.plant_file.specs.Plant.{LinePlant, Plant}
use Rattle.plan_file.specs.Plan.{LinePlan, Plan}
use Rattle.std.specs.Prelude.{None, Some}
use Rattle.sections.specs.Rows.{refusal_number}
use Rattle.sections.specs.declared.Refusal.{Refusal}
use Rattle.sections.specs.declared.Refusal.TheVariants as refusal
use Rattle.costs.specs.Mounted.{Mounted, opening_mounted}
use Rattle.rules.specs.Rules.{week_of, production_end}
use Rattle.rules.specs.Verdict.{Verdict, Trial, trial, trials, tried, profit_tried}

-- "all 0"
abbrev pub no_passage : ℕ → LinePlan → ℕ → Bool
no_passage N x w = all_below N (λ i. all_below N (λ j. eqb (x.week_changeover w i j) 0))

-- "into j it sums to F of j, out of i to" `from` i, which is 1 at one product and else 0
abbrev pub passage_from : ℕ → LinePlan → (from : ℕ → ℕ) (w : ℕ) → Bool
passage_from N x from w =
    all_below N (λ j. eqb (sum_below N (λ i. x.week_changeover w i j)) (x.first w j))
    && all_below N (λ i. eqb (sum_below N (λ j. x.week_changeover w i j)) (from i))

-- "rule 33 takes that earlier week (all 0 in a shut week or with none earlier)", L of it; "With a product mounted .. in week 0 too": that product.
-- Whether the week is shut, the weeks up to the earlier one, and what is mounted before the first week
abbrev pub passage_words : ℕ → LinePlan → ℕ → (isShut : Bool) (earlier : ℕ) → Mounted → Bool
passage_words N x w true earlier m = no_passage N x w
passage_words N x w false zero None = no_passage N x w
passage_words N x w false zero (Some p) = passage_from N x (is p) w
passage_words N x w false (suc v) m = passage_from N x (x.last v) w

abbrev pub words33 : ℕ → LinePlant → LinePlan → ℕ → Bool
words33 N l x w = passage_words N x w (shut N (week_of x w)) (production_end N x w) (opening_mounted l)

-- the list of rules with another rule for a refusal
abbrev pub replaced : Refusal → (ℕ → Bool) → List Trial → List Trial
replaced n keeps [] = []
replaced n keeps (t ∷ ts) = cond (eqb (refusal_number n) (refusal_number t.refusal)) (trial n keeps) t ∷ replaced n keeps ts

unfoldable pub verdict_in_words : Plant → Plan → Verdict
verdict_in_words P x = tried P.weeks (replaced refusal.Passage (words33 P.products P.line x.line) (trials P x)) (profit_tried P x)
