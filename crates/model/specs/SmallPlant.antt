-- The small plant of paper 01, its slots and plans, its thirteen cases, the last by request 2026-01, and the case of request 2026-02. Assumes
-- nothing.
use Rattle.std.specs.Prelude.{ℕ, suc, List, [], ◌∷◌, get_or, ℤ, pos}
use Rattle.sections.specs.Limits.{nothing_mounted}
use Rattle.plant_file.specs.Plant.{Plant}
use Rattle.plan_file.specs.Plan.{Plan}
use Rattle.slot_file.specs.Slots.{Slot, Slots}
use Rattle.machine.specs.State.{Outcome}
use Rattle.machine.specs.Run.{run}
use Rattle.rules.specs.Verdict.{Verdict, verdict_of}
use Rattle.model.specs.RunTables.{run_tables}

-- a row and a table of numbers, 0 past their ends
abbrev pub row : List ℕ → ℕ → ℕ
row l i = get_or l i 0

abbrev pub table : List (List ℕ) → ℕ → ℕ → ℕ
table l i j = row (get_or l i []) j

-- A and B, in a kind of file, with what is mounted before the first week and A's limit of storage
unfoldable pub small_plant_of : (kind mounted limit : ℕ) → Plant
small_plant_of kind mounted limit =
    record {
      kind = kind;
      products = 2;
      customers = 1;
      weeks = 2;
      line =
          record {
            rate = row (100 ∷ 50 ∷ []);
            changeover_minutes = table ((0 ∷ 40 ∷ []) ∷ (30 ∷ 0 ∷ []) ∷ []);
            changeover_cents = table ((0 ∷ 600 ∷ []) ∷ (500 ∷ 0 ∷ []) ∷ []);
            mounted = mounted;
            shut_before = 0;
          };
      demand = λ c. table ((400000 ∷ 300000 ∷ []) ∷ (100000 ∷ 200000 ∷ []) ∷ []);
      price = λ c. row (10 ∷ 12 ∷ []);
      backlog_cost = λ c. row (2 ∷ 3 ∷ []);
      inventory_cost = row (1 ∷ 1 ∷ []);
      least_storage = λ i. 0;
      greatest_storage = row (limit ∷ 2000000 ∷ []);
      opening_inventory = λ i. 0;
      opening_backlog = λ c i. 0;
      shortest_run = 300;
      week_minutes = 10080;
    }

-- in kind 1, with nothing mounted
unfoldable pub small_plant : ℕ → Plant
unfolding small_plant_of
small_plant limit = small_plant_of 1 nothing_mounted limit

-- the first week alone, of A, B and C
unfoldable pub three_products : Plant
three_products =
    record {
      kind = 1;
      products = 3;
      customers = 1;
      weeks = 1;
      line =
          record {
            rate = row (100 ∷ 50 ∷ 50 ∷ []);
            changeover_minutes = table ((0 ∷ 40 ∷ 0 ∷ []) ∷ (30 ∷ 0 ∷ 0 ∷ []) ∷ []);
            changeover_cents = table ((0 ∷ 600 ∷ 0 ∷ []) ∷ (500 ∷ 0 ∷ 0 ∷ []) ∷ []);
            mounted = nothing_mounted;
            shut_before = 0;
          };
      demand = λ c. table ((400000 ∷ []) ∷ (100000 ∷ []) ∷ (100000 ∷ []) ∷ []);
      price = λ c. row (10 ∷ 12 ∷ 12 ∷ []);
      backlog_cost = λ c. row (2 ∷ 3 ∷ 3 ∷ []);
      inventory_cost = row (1 ∷ 1 ∷ 1 ∷ []);
      least_storage = λ i. 0;
      greatest_storage = λ i. 2000000;
      opening_inventory = λ i. 0;
      opening_backlog = λ c i. 0;
      shortest_run = 300;
      week_minutes = 10080;
    }

-- each with E = 1, A first and last, B to C, C to B, O 1, 2, 3, all else 0
unfoldable pub ring : Plan
ring =
    record {
      line =
          record {
            assigned = λ w i. 1;
            first = λ w. row (1 ∷ 0 ∷ 0 ∷ []);
            last = λ w. row (1 ∷ 0 ∷ 0 ∷ []);
            changeover = λ w. table ((0 ∷ 0 ∷ 0 ∷ []) ∷ (0 ∷ 0 ∷ 1 ∷ []) ∷ (0 ∷ 1 ∷ 0 ∷ []) ∷ []);
            week_changeover = λ w i j. 0;
            position = λ w i. suc i;
            minutes = λ w i. 0;
          };
      production = λ w i. 0;
      sales = λ c i w. 0;
      inventory = λ w i. 0;
      backlog = λ c i w. 0;
      profit = pos 0;
    }

-- a run of A, and of B
abbrev pub run_a : ℕ → Slot
run_a m = record { product = 0; minutes = m }

abbrev pub run_b : ℕ → Slot
run_b m = record { product = 1; minutes = m }

-- A 5000 and B's first run, then the second week; A's sales of the two weeks, then B's
unfoldable pub small_slots : (b : ℕ) (second : List Slot) (salesA salesB : List ℕ) → Slots
small_slots b second salesA salesB =
    record {
      line = record { week = λ w. get_or ((run_a 5000 ∷ run_b b ∷ []) ∷ second ∷ []) w [] };
      sales = λ c. table (salesA ∷ salesB ∷ []);
    }

-- the slots as the paper has them, but for B's two runs and its second sale
unfoldable pub slots_of_b : (first second sale : ℕ) → Slots
slots_of_b first second sale = small_slots first (run_b second ∷ run_a 2000 ∷ []) (400000 ∷ 300000 ∷ []) (100000 ∷ sale ∷ [])

-- a plan with another profit
unfoldable pub with_profit : Plan → ℤ → Plan
with_profit x z =
    record { line = x.line; production = x.production; sales = x.sales; inventory = x.inventory; backlog = x.backlog; profit = z }

-- a case: a plan alone, or slots with the plan of their run's tables
pub data Case : Type 0 where
  planned : Plant → Plan → Case
  slotted : Plant → Slots → Case

-- what is said of it: the plan's verdict, and how the run of the slots ends
pub data Fact : Type 0 where
  judged : Verdict → Fact
  ran : Verdict → Outcome → Fact

abbrev pub fact_of : Case → Fact
fact_of (planned P x) = judged (verdict_of P x)
fact_of (slotted P S) = ran (verdict_of P (run_tables P S)) (run P S).outcome

-- in the paper's order
unfoldable pub small_cases : List Case
small_cases =
    slotted (small_plant 2000000) (slots_of_b 2000 3000 150000)  -- P1
    ∷ planned (small_plant 2000000) (with_profit (run_tables (small_plant 2000000) (slots_of_b 2000 3000 150000)) (pos 8650001))  -- P2
    ∷ planned three_products ring  -- P3
    ∷ slotted (small_plant 2000000) (slots_of_b 2000 300 15000)  -- P4
    ∷ slotted (small_plant 2000000) (slots_of_b 2000 299 14950)  -- P5
    ∷ slotted (small_plant 2000000) (slots_of_b 5040 3000 150000)  -- P6
    ∷ slotted (small_plant 2000000) (slots_of_b 5041 3000 150000)  -- P7
    ∷ slotted (small_plant 2000000) (slots_of_b 2000 3000 150001)  -- P8
    ∷ slotted (small_plant 2000000) (small_slots 2000 (run_b 3000 ∷ run_a 2000 ∷ []) (400001 ∷ 300000 ∷ []) (100000 ∷ 150000 ∷ []))  -- P9
    ∷ slotted (small_plant 2000000) (small_slots 2000 [] (400000 ∷ 300000 ∷ []) (100000 ∷ 150000 ∷ []))  -- P10
    ∷ slotted (small_plant 100000) (slots_of_b 2000 3000 150000)  -- P11
    ∷ slotted (small_plant 99999) (slots_of_b 2000 3000 150000)  -- P12
    ∷ slotted (small_plant 2000000) (small_slots 2000 [] (400000 ∷ 100000 ∷ []) (100000 ∷ 0 ∷ []))  -- P13
    ∷ []

-- request 2026-02: P1's slots, with B mounted before the first week
unfoldable pub mounted_case : Case
mounted_case = slotted (small_plant_of 4 1 2000000) (slots_of_b 2000 3000 150000)
