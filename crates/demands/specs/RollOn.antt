-- REQUEST 2026-03, ROLL ON WITH NEW RATES, over the call's own definition: what rolling on refuses, and the claim for an accepted plant file, a plan
-- file that passes and the file that is written. Each sentence of the request is a field, or a few. Assumes nothing.
use Rattle.sections.specs.declared.Refusal.{Refusal}
use Rattle.std.specs.Prelude.{ℕ, ◌+◌, ◌-◌, ◌*◌, ◌≤◌, ◌<◌, ◌≡◌, ◌↔◌, ◌⊎◌, ◌≢◌, true, List, length, ◌+ℤ◌}
use Rattle.contents.specs.Contents.{sized}
use Rattle.sections.specs.declared.Shape.{Shape}
use Rattle.std.specs.Prelude.{Err, Ok}
use Rattle.plant_file.specs.Kinds.{plant_kind}
use Rattle.plant_file.specs.Plant.{Plant, plant_of}
use Rattle.plant_file.specs.Form.{shape_of, plant_headed, laid_out, plant_lengths, plant_form}
use Rattle.plant_file.specs.Rates.{listed_rate}
use Rattle.plant_file.specs.Ranges.{PlantRanges}
use Rattle.plan_file.specs.Plan.{plan_of}
use Rattle.slot_file.specs.Slots.{Slots, slots_of}
use Rattle.slot_file.specs.Form.{slot_form}
use Rattle.slot_file.specs.File.{slot_file}
use Rattle.costs.specs.Mounted.{opening_mounted}
use Rattle.machine.specs.declared.State.{State}
use Rattle.machine.specs.State.{inventory_of, backlog_of, continues}
use Rattle.machine.specs.Run.{run, after}
use Rattle.model.specs.RunTables.{mounted_at}
use Rattle.model.specs.Rolled.{rolled_shape, later_slots}
use Rattle.passed_plan.specs.Shown.{shown_in}
use Rattle.calls.specs.Check.{check_of}
use Rattle.calls.specs.Answer.{bytes, refused, roll_answer}
use Rattle.demands.specs.OpeningMounted.{Passes}
use Rattle.sections.specs.declared.Refusal.TheVariants as refusal

-- every rate of a list is 1 to 100,000
abbrev pub RatesInRange : ℕ → List ℕ → Type 0
RatesInRange N rates = (i : ℕ) → i < N → (1 ≤ listed_rate rates i) × (listed_rate rates i ≤ 100000)

-- the numbers that follow the plan's checks, in their order
pub record RollRefused (plant : List ℕ) (f : Shape) (plan : List ℕ) (k : ℕ) (rates : List ℕ) : Type 0 where
  -- "61 if k is not 1 to W − 1, after the plan's checks and before the rates"
  pub outside_is_61 : Passes plant plan → (k ≡ 0) ⊎ (f.weeks ≤ k) → roll_answer plant plan k rates ≡ refused refusal.WeeksLeft
  -- "A list that isn't N rates of 4 bytes is a 4, a rate out of range a 5"
  pub list_is_4 : Passes plant plan → 1 ≤ k → k < f.weeks → length rates ≢ 4 * f.products → roll_answer plant plan k rates ≡ refused refusal.PlantLengths
  pub rate_is_5 : Passes plant plan → 1 ≤ k → k < f.weeks → length rates ≡ 4 * f.products
      → (i : ℕ) → i < f.products → (listed_rate rates i ≡ 0) ⊎ (100000 < listed_rate rates i) → roll_answer plant plan k rates ≡ refused refusal.PlantRanges
  -- "62 if an owed amount exceeds the limit, after the rates and before 51"
  pub backlog_is_62 : Passes plant plan → 1 ≤ k → k < f.weeks → length rates ≡ 4 * f.products → RatesInRange f.products rates
      → (c i : ℕ) → c < f.customers → i < f.products → 1600000000 < (plan_of f plan).backlog c i (k - 1) → roll_answer plant plan k rates ≡ refused refusal.OpeningBacklog
  -- else there is a file to write
  pub otherwise : Passes plant plan → 1 ≤ k → k < f.weeks → length rates ≡ 4 * f.products → RatesInRange f.products rates
      → ((c i : ℕ) → c < f.customers → i < f.products → (plan_of f plan).backlog c i (k - 1) ≤ 1600000000)
      → (new : List ℕ) × (roll_answer plant plan k rates ≡ bytes new)

-- two states, of two plants for N products and C customers, with "the same stock, owed, clock and mounted product"
pub record SameWeekEnd (N C : ℕ) (a b : State) : Type 0 where
  pub inventory : (i : ℕ) → i < N → inventory_of a i ≡ inventory_of b i
  pub backlog : (c i : ℕ) → c < C → i < N → backlog_of N a c i ≡ backlog_of N b c i
  pub clock : a.line.clock ≡ b.line.clock
  pub mounted : a.line.mounted ≡ b.line.mounted

-- the rest of a run, S on P, after its first k weeks: T on Q, which goes on for so many weeks
pub record RunsOn (P : Plant) (S : Slots) (k weeks : ℕ) (Q : Plant) (T : Slots) : Type 0 where
  pub runs : run Q T ≡ continues (after Q T weeks)
  -- "to the same stock, owed, clock and mounted product as in the whole run", after each of its weeks
  pub same : (n : ℕ) → 1 ≤ n → n ≤ weeks → SameWeekEnd P.products P.customers (after Q T n) (after P S (k + n))
  -- "the purse after week k plus the new run's purse is the whole profit", after each of its weeks
  pub profit : (n : ℕ) → n ≤ weeks → (after P S k).profit.0 +ℤ (after Q T n).profit.0 ≡ (after P S (k + n)).profit.0

-- the plant P is rolled on after k weeks of the slots S to the plant Q, for N products and C customers
pub record RolledOn (N C weeks : ℕ) (P : Plant) (S : Slots) (k : ℕ) (rates : List ℕ) (Q : Plant) : Type 0 where
  -- "demands cut"
  pub demand : (c i w : ℕ) → c < C → i < N → w < weeks - k → Q.demand c i w ≡ P.demand c i (k + w)
  -- "stock, owed and mounted product as after week k"
  pub inventory : (i : ℕ) → i < N → Q.opening_inventory i ≡ inventory_of (after P S k) i
  pub backlog : (c i : ℕ) → c < C → i < N → Q.opening_backlog c i ≡ backlog_of N (after P S k) c i
  pub mounted : opening_mounted Q.line ≡ mounted_at P S k
  -- "new rates"
  pub rate : (i : ℕ) → i < N → Q.line.rate i ≡ listed_rate rates i
  -- "section 12's second byte 1 exactly if week k was shut", and else 0
  pub shut_before : (Q.line.shut_before ≡ 1) ↔ (length (S.line.week (k - 1)) ≡ 0)
  pub shut_before_most : Q.line.shut_before ≤ 1
  -- "the rest copied"
  pub changeover_minutes : (i j : ℕ) → i < N → j < N → Q.line.changeover_minutes i j ≡ P.line.changeover_minutes i j
  pub changeover_cents : (i j : ℕ) → i < N → j < N → Q.line.changeover_cents i j ≡ P.line.changeover_cents i j
  pub price : (c i : ℕ) → c < C → i < N → Q.price c i ≡ P.price c i
  pub backlog_cost : (c i : ℕ) → c < C → i < N → Q.backlog_cost c i ≡ P.backlog_cost c i
  pub inventory_cost : (i : ℕ) → i < N → Q.inventory_cost i ≡ P.inventory_cost i
  pub least_storage : (i : ℕ) → i < N → Q.least_storage i ≡ P.least_storage i
  pub greatest_storage : (i : ℕ) → i < N → Q.greatest_storage i ≡ P.greatest_storage i
  pub shortest_run : Q.shortest_run ≡ P.shortest_run
  pub week_minutes : Q.week_minutes ≡ P.week_minutes

-- the file `new` that rolling on answers with, and the file of the slots and sales of the later weeks
pub record RollOn (plant : List ℕ) (f : Shape) (plan : List ℕ) (k : ℕ) (rates new : List ℕ) : Type 0 where
  -- "write the kind 4 plant file of the remaining weeks": it is accepted, and its numbers are these
  pub accepted : plant_form new ≡ Ok (rolled_shape f k)
  pub rolled : RolledOn f.products f.customers f.weeks (plant_of f plant) (shown_in f plan) k rates (plant_of (rolled_shape f k) new)
  -- "Where that succeeds with unchanged rates, the slots and sales of the later weeks run on the new plant"
  pub runs_on : ((i : ℕ) → i < f.products → listed_rate rates i ≡ (plant_of f plant).line.rate i)
      → let later = slot_file (rolled_shape f k) (later_slots k (shown_in f plan)) in
      (slot_form (rolled_shape f k) later ≡ Ok (rolled_shape f k))
      × RunsOn (plant_of f plant) (shown_in f plan) k (f.weeks - k) (plant_of (rolled_shape f k) new) (slots_of (rolled_shape f k) later)
  -- whose whole profit is the plan's
  pub whole : (after (plant_of f plant) (shown_in f plan) f.weeks).profit.0 ≡ (plan_of f plan).profit

-- "In kind 4 the opening owed may reach 1,600,000,000", in kind 1 100,000,000 as before
pub record OpeningBacklog (plant : List ℕ) (f : Shape) : Type 0 where
  pub kind_four : (plant_kind 4).backlog ≡ 1600000000
  pub kind_one : (plant_kind 1).backlog ≡ 100000000
  pub limit : (c i : ℕ) → c < f.customers → i < f.products → (plant_of f plant).opening_backlog c i ≤ (plant_kind f.kind).backlog
  -- it may: a file past rows 1, 2 and 4 with numbers within the ranges, that limit among them, is accepted
  pub never_refused : (s : List ℕ) → plant_headed s ≡ true → laid_out s ≡ true → sized s (plant_lengths (shape_of s)) ≡ true
      → PlantRanges (plant_of (shape_of s) s) → plant_form s ≡ Ok (shape_of s)

-- the request
pub record RollingOn (plant : List ℕ) : Type 0 where
  -- of any bytes: what checking refuses, the plant's rows, the plan's and the rules, is refused with its number
  pub unchecked : (plan : List ℕ) (k : ℕ) (rates : List ℕ) (n : Refusal) → check_of plant plan ≡ Err n → roll_answer plant plan k rates ≡ refused n
  -- of an accepted plant file
  pub refusals : (f : Shape) → plant_form plant ≡ Ok f → (plan : List ℕ) (k : ℕ) (rates : List ℕ) → RollRefused plant f plan k rates
  pub writes : (f : Shape) → plant_form plant ≡ Ok f → (plan : List ℕ) → Passes plant plan → (k : ℕ) (rates new : List ℕ)
      → roll_answer plant plan k rates ≡ bytes new → RollOn plant f plan k rates new
  pub opening_backlog : (f : Shape) → plant_form plant ≡ Ok f → OpeningBacklog plant f
