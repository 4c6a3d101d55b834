-- REQUEST 2026-02, WHAT IS MOUNTED ON MONDAY, over the calls' own definitions: the claim for one accepted plant file.
-- Each sentence of the request is a field, or a few. Assumes nothing.
use Rattle.std.specs.Prelude.{ℕ, ◌+◌, ◌*◌, ◌-◌, ◌≤◌, ◌<◌, ◌≡◌, ◌⊎◌, ◌≢◌, true, List, length, get_or, pos}
use Rattle.mathematics.specs.Below.{is}
use Rattle.numbers.specs.Number.{Bytes}
use Rattle.contents.specs.Contents.{sized}
use Rattle.sections.specs.declared.Shape.{Shape}
use Rattle.std.specs.Prelude.{Err, None, Ok, Some}
use Rattle.plant_file.specs.Plant.{plant_of, mounted_in, shut_before_in}
use Rattle.plant_file.specs.Form.{shape_of, plant_headed, laid_out, in_limits, plant_lengths, plant_form}
use Rattle.plan_file.specs.Plan.{Plan, plan_of}
use Rattle.costs.specs.Mounted.{opening_mounted}
use Rattle.costs.specs.Changeover.{changeover_between}
use Rattle.machine.specs.Run.{opening}
use Rattle.rules.specs.Rules.{changeovers_under, changeovers_in}
use Rattle.model.specs.SmallPlant.{ran, fact_of, mounted_case}
use Rattle.units.specs.declared.Profit.{Profit}
use Rattle.calls.specs.Check.{check_of}
use Rattle.calls.specs.Answer.{slot_answer, plan_answer, roll_answer}
use Rattle.report.specs.Report.{report_text}
use Rattle.demands.specs.ThirdDemand.{ThirdDemand}
use Rattle.demands.specs.ShutWeeks.{IsShut}
use Rattle.sections.specs.declared.Refusal.TheVariants as refusal

-- equal verdicts, runs, tables and reports: checking, slot return, plan writing, rolling on and the report answer alike
pub record SameAnswers (a b : List ℕ) : Type 0 where
  pub check : (plan : List ℕ) → check_of a plan ≡ check_of b plan
  pub slots : (plan : List ℕ) → slot_answer a plan ≡ slot_answer b plan
  pub plan : (slots : List ℕ) → plan_answer a slots ≡ plan_answer b slots
  pub roll : (plan : List ℕ) (k : ℕ) (rates : List ℕ) → roll_answer a plan k rates ≡ roll_answer b plan k rates
  pub report : (plan : List ℕ) → Bytes plan → report_text a plan ≡ report_text b plan

-- a plan file that passes
pub record Passes (plant plan : List ℕ) : Type 0 where
  pub bytes : Bytes plan
  pub profit : Profit
  pub passed : check_of plant plan ≡ Ok profit

-- every week of a plan before week w is shut
abbrev pub EarlierShut : Shape → Plan → ℕ → Type 0
EarlierShut f x w = (u : ℕ) → u < w → IsShut f x u

pub record OpeningMounted (plant : List ℕ) (f : Shape) : Type 0 where
  -- "Plant files of kind 4 add section 12": kind 1 with 11 sections, or kind 4 with 12
  pub kind : f.kind ≡ get_or plant 0 0
  pub kinds : ((f.kind ≡ 1) × (get_or plant 1 0 ≡ 11)) ⊎ ((f.kind ≡ 4) × (get_or plant 1 0 ≡ 12))
  -- any other pair is a 1
  pub other_pair_is_1 : (s : List ℕ) → ((get_or s 0 0 ≡ 1) × (get_or s 1 0 ≡ 11) → ⊥) → ((get_or s 0 0 ≡ 4) × (get_or s 1 0 ≡ 12) → ⊥) → plant_form s ≡ Err refusal.PlantContents
  -- "the mounted product or 255 for none, then one byte, 1 if the week before the horizon was shut, else 0": the file's last two bytes
  pub section_12 : f.kind ≡ 4
      → ((plant_of f plant).line.mounted ≡ get_or plant (length plant - 2) 0) × ((plant_of f plant).line.shut_before ≡ get_or plant (length plant - 1) 0)
  pub mounted_known_lem : ((plant_of f plant).line.mounted < f.products) ⊎ ((plant_of f plant).line.mounted ≡ 255)
  pub shut_before_most : (plant_of f plant).line.shut_before ≤ 1
  -- "The second byte changes nothing yet": two files of kind 4 that agree but in their last byte. It does change something from request 2026-09 on
  pub second_byte_unread : (other : List ℕ) → plant_form other ≡ Ok f → f.kind ≡ 4
      → ((j : ℕ) → j + 1 < length plant → get_or other j 0 ≡ get_or plant j 0) → SameAnswers plant other
  -- "With a product mounted, the first producing week pays its changeover": p is mounted and q comes first. By the table of minutes rule 36 counts
  -- it, by that of cents rule 41
  pub first_changeover : (plan : List ℕ) → Passes plant plan → (p : ℕ) → opening_mounted (plant_of f plant).line ≡ Some p
      → (w : ℕ) → w < f.weeks → EarlierShut f (plan_of f plan) w → (q : ℕ) → q < f.products → (plan_of f plan).line.first w q ≡ 1
      → (table : ℕ → ℕ → ℕ) → changeovers_in f.products table (plan_of f plan).line w
      ≡ changeovers_under f.products table ((plan_of f plan).line.changeover w) + changeover_between table p q
  -- "and its ZF row says so, in week 0 too"
  pub first_passage : (plan : List ℕ) → Passes plant plan → (p : ℕ) → opening_mounted (plant_of f plant).line ≡ Some p
      → (w : ℕ) → w < f.weeks → EarlierShut f (plan_of f plan) w
      → (i j : ℕ) → i < f.products → j < f.products → (plan_of f plan).line.week_changeover w i j ≡ is p i * (plan_of f plan).line.first w j
  -- "Kind 1 reads as 255 and 0."
  pub kind_one : f.kind ≡ 1 → ((plant_of f plant).line.mounted ≡ 255) × ((plant_of f plant).line.shut_before ≡ 0)
  -- "Section 12 outside these values is a 5": of every file past rows 1 to 4
  pub outside_is_5 : (s : List ℕ) → plant_headed s ≡ true → laid_out s ≡ true → in_limits (shape_of s) ≡ true
      → sized s (plant_lengths (shape_of s)) ≡ true
      → (((shape_of s).products ≤ mounted_in (shape_of s) s) × (mounted_in (shape_of s) s ≢ 255)) ⊎ (2 ≤ shut_before_in (shape_of s) s)
      → plant_form s ≡ Err refusal.PlantRanges
  -- "Plans are compared with the machine begun from that mounted product": what the run begins with, and the third demand, which compares them
  pub opening_mounted_lem : (plant_of f plant).line.mounted < f.products → (opening (plant_of f plant)).line.mounted ≡ Some (plant_of f plant).line.mounted
  pub opening_nothing : (plant_of f plant).line.mounted ≡ 255 → (opening (plant_of f plant)).line.mounted ≡ None
  pub compared : (plan : List ℕ) → Bytes plan → ThirdDemand plant f plan
  -- the small plant with B mounted
  pub case_mounted : fact_of mounted_case ≡ ran (Ok (record { 0 = pos 8150000 })) (Ok tt)
