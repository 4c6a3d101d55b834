-- REQUEST 2026-01, SHUT WEEKS, over the calls' own definitions: the claim for one accepted plant file, a plan file that passes, and the slot file
-- that slot return answers with. Each sentence of the request is a field, or a few. Assumes nothing.
use Rattle.std.specs.Prelude.{ℕ, ◌+◌, ◌*◌, ◌-◌, ◌≤◌, ◌<◌, ◌≡◌, ◌↔◌, ◌⊎◌, true, false, List, map, get_or, pos}
use Rattle.mathematics.specs.Below.{sum_below}
use Rattle.mathematics.specs.Week.{WeekTables, shut, rule31, OneMark, NoMark, NoProduct}
use Rattle.sections.specs.declared.Shape.{Shape}
use Rattle.std.specs.Prelude.{Err, None, Ok}
use Rattle.plant_file.specs.Plant.{Plant, plant_of}
use Rattle.plan_file.specs.Plan.{Plan, plan_of}
use Rattle.slot_file.specs.Slots.{WeekFormed, slot_count, slots_of}
use Rattle.slot_file.specs.Form.{slot_form}
use Rattle.costs.specs.Mounted.{is_mounted, opening_mounted}
use Rattle.rules.specs.Rules.{week_of, mounted_before, backlog_before, inventory_before}
use Rattle.rules.specs.Verdict.{verdict_of}
use Rattle.rules.specs.Words.{verdict_in_words}
use Rattle.model.specs.RunTables.{mounted_at}
use Rattle.model.specs.SmallPlant.{Fact, judged, ran, fact_of, small_cases}
use Rattle.sections.specs.declared.Refusal.TheVariants as refusal

-- "its E, F, L, Z, ZF, O, T and P are 0" in week w, for N products
pub record ShutTables (N : ℕ) (x : Plan) (w : ℕ) : Type 0 where
  -- E, F, L, Z and O
  pub order : NoProduct N (week_of x.line w)
  pub week_changeover : (i j : ℕ) → i < N → j < N → x.line.week_changeover w i j ≡ 0
  pub minutes : (i : ℕ) → i < N → x.line.minutes w i ≡ 0
  pub production : (i : ℕ) → i < N → x.production w i ≡ 0

-- what week w sells without making anything
pub record ShutSales (P : Plant) (x : Plan) (w : ℕ) : Type 0 where
  pub inventory : (i : ℕ) → i < P.products → x.inventory w i + sum_below P.customers (λ c. x.sales c i w) ≡ inventory_before P x w i
  pub backlog : (c i : ℕ) → c < P.customers → i < P.products → x.backlog c i w + x.sales c i w ≡ backlog_before P x w c i + P.demand c i w

-- what the small plant's case k gives, counted from 1
abbrev pub case_of : ℕ → Fact
case_of k = get_or (map fact_of small_cases) (k - 1) (judged (Err refusal.PlantContents))

-- week w of a line's plan is shut, or produces
abbrev pub IsShut : Shape → Plan → ℕ → Type 0
IsShut f x w = shut f.products (week_of x.line w) ≡ true

abbrev pub Produces : Shape → Plan → ℕ → Type 0
Produces f x w = shut f.products (week_of x.line w) ≡ false

pub record ShutWeeks (plant : List ℕ) (f : Shape) (plan slots : List ℕ) : Type 0 where
  -- "A week may now have no product: its E, F, L, Z, ZF, O, T and P are 0, its slot count is 0"
  pub shut_zero : (w : ℕ) → w < f.weeks → ((i : ℕ) → i < f.products → (plan_of f plan).line.assigned w i ≡ 0)
      → ShutTables f.products (plan_of f plan) w × (slot_count slots w ≡ 0)
  -- "and sales still happen"
  pub sales_happen : (w : ℕ) → w < f.weeks → ((i : ℕ) → i < f.products → (plan_of f plan).line.assigned w i ≡ 0)
      → ShutSales (plant_of f plant) (plan_of f plan) w
  -- "ZF of the next producing week runs from the last product of the last producing week": week v, with shut weeks alone between it and week w
  pub passage : (v w : ℕ) → v < w → w < f.weeks → Produces f (plan_of f plan) v → ((u : ℕ) → v < u → u < w → IsShut f (plan_of f plan) u)
      → (i j : ℕ) → i < f.products → j < f.products
      → (plan_of f plan).line.week_changeover w i j ≡ (plan_of f plan).line.last v i * (plan_of f plan).line.first w j
  -- "if there was one": with none, and nothing mounted before the first week (request 2026-02)
  pub first_passage : opening_mounted (plant_of f plant).line ≡ None → (w : ℕ) → w < f.weeks → ((u : ℕ) → u < w → IsShut f (plan_of f plan) u)
      → (i j : ℕ) → i < f.products → j < f.products → (plan_of f plan).line.week_changeover w i j ≡ 0
  -- "Rule 31 becomes "one F and one L, each on a product with E = 1, or none of E, F and L"": the latter is what is called shut here
  pub rule_31 : (x : WeekTables) → (rule31 f.products x ≡ true)
      ↔ ((OneMark f.products x.first x.assigned × OneMark f.products x.last x.assigned) ⊎ NoMark f.products x)
  pub none_of_each : (x : WeekTables) → (shut f.products x ≡ true) ↔ NoMark f.products x
  -- "rule 33 takes that earlier week (all 0 in a shut week or with none earlier)": for every plan, passed or not; `verdict_in_words` has the rule in
  -- these words, and in request 2026-02's where a product is mounted before the first week
  pub rule_33 : (x : Plan) → verdict_of (plant_of f plant) x ≡ verdict_in_words (plant_of f plant) x
  -- "24 admits a count of 0": no file is refused with it whose weeks have 0 to N slots each, of products below N
  pub count_of_0 : (s : List ℕ) → ((w : ℕ) → w < f.weeks → WeekFormed f.products ((slots_of f s).line.week w)) → slot_form f s ≡ Err refusal.SlotRanges → ⊥
  -- "case P10 gives 39", in the rules and in the run, "but passes with second sales of 100,000 and 0"
  pub case_10 : case_of 10 ≡ ran (Err refusal.Inventory) (Err refusal.Inventory)
  pub case_13 : case_of 13 ≡ ran (Ok (record { 0 = pos 4500000 })) (Ok tt)
  -- "A shut week is part of a plan like any other for the match of plans and slots": the third demand in its own words, over the run that has
  -- mounted before each week what the plan's tables say
  pub mounted_before_lem : (w : ℕ) → w ≤ f.weeks → (i : ℕ) → i < f.products
      → mounted_before f.products (plant_of f plant).line (plan_of f plan).line w i ≡ is_mounted (mounted_at (plant_of f plant) (slots_of f slots) w) i
