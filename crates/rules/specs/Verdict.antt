-- What the rules say of a plan, the verdict: its profit, or the number of the first rule that it breaks. Assumes nothing.
use Rattle.std.specs.Prelude.{ℕ, Bool, true, false, List, [], ◌∷◌}
use Rattle.mathematics.specs.Below.{all_below}
use Rattle.mathematics.specs.Week.{rule31, rule32, rule34}
use Rattle.plant_file.specs.Plant.{Plant}
use Rattle.plan_file.specs.Plan.{Plan}
use Rattle.rules.specs.Rules.{week_of, rule33, rule35, rule36, rule37, rule38, rule39, rule40, rule41}
use Rattle.std.specs.Prelude.{Result, Err, Ok}
use Rattle.units.specs.declared.Profit.{Profit}
use Rattle.sections.specs.declared.Refusal.{Refusal}
use Rattle.sections.specs.declared.Refusal.TheVariants as refusal

abbrev pub Verdict : Type 0
Verdict = Result Profit Refusal

-- the refusal of a plan that breaks a rule, and whether a week keeps it
pub record Trial : Type 0 where
  pub refusal : Refusal
  pub keeps : ℕ → Bool

abbrev pub trial : Refusal → (ℕ → Bool) → Trial
trial n p = record { refusal = n; keeps = p }

-- "The model's rules, in checking order": those of a week
unfoldable pub trials : Plant → Plan → List Trial
trials P x =
    trial refusal.Ends (λ w. rule31 P.products (week_of x.line w))
    ∷ trial refusal.Sequence (λ w. rule32 P.products (week_of x.line w))
    ∷ trial refusal.Passage (rule33 P.products P.line x.line)
    ∷ trial refusal.Position (λ w. rule34 P.products (week_of x.line w))
    ∷ trial refusal.RunMinutes (rule35 P.products P.shortest_run P.week_minutes x.line)
    ∷ trial refusal.WeekMinutes (rule36 P.products P.week_minutes P.line x.line)
    ∷ trial refusal.Production (rule37 P x)
    ∷ trial refusal.Backlog (rule38 P x)
    ∷ trial refusal.Inventory (rule39 P x)
    ∷ trial refusal.Storage (rule40 P x)
    ∷ []

-- a plan that breaks a rule is refused with its number, any other goes on
abbrev pub rule : Refusal → Bool → Verdict → Verdict
rule n true next = next
rule n false next = Err n

-- "Each rule is tried over all weeks before the next."
unfoldable pub tried : ℕ → List Trial → Verdict → Verdict
tried weeks [] last = last
tried weeks (t ∷ ts) last = rule t.refusal (all_below weeks t.keeps) (tried weeks ts last)

-- the last rule, which is of all weeks together, and what comes of a plan that keeps them all
unfoldable pub profit_tried : Plant → Plan → Verdict
profit_tried P x = rule refusal.Profit (rule41 P x) (Ok (record { 0 = x.profit }))

unfoldable pub verdict_of : Plant → Plan → Verdict
verdict_of P x = tried P.weeks (trials P x) (profit_tried P x)
