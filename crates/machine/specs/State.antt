-- The state of the plant machine: what it holds, and how a step leaves it. Assumes nothing.
use Rattle.std.specs.Prelude.{ℕ, zero, suc, ◌+◌, ◌*◌, ◌/◌, ◌%◌, ◌^◌, Bool, true, false, eqb, List, [], ◌∷◌, get_or, set, ℤ}
use Rattle.std.specs.Prelude.{Result, Err, Ok}
use Rattle.sections.specs.declared.Refusal.{Refusal}
use Rattle.costs.specs.Mounted.{Mounted}
use Rattle.machine.specs.declared.LineState.{LineState}
use Rattle.machine.specs.declared.State.{State}
use Rattle.machine.specs.declared.Stopped.{Stopped}

-- grams of product i in inventory (the paper's stock)
unfoldable pub inventory_of : State → ℕ → ℕ
inventory_of s i = get_or s.inventory i 0

-- grams of product i that customer c is owed, of N products
unfoldable pub backlog_of : ℕ → State → ℕ → ℕ → ℕ
backlog_of N s c i = get_or s.backlog (c * N + i) 0

-- product i has run this week: binary digit i of the state's number
unfoldable pub has_run : State → ℕ → Bool
has_run s i = eqb (s.line.ran / 2 ^ i % 2) 1

-- ---- one part of the state anew
unfoldable pub with_inventory : State → List ℕ → State
with_inventory s l = record { inventory = l; line = s.line; backlog = s.backlog; profit = s.profit }

unfoldable pub with_backlog : State → List ℕ → State
with_backlog s l = record { inventory = s.inventory; line = s.line; backlog = l; profit = s.profit }

unfoldable pub with_profit : State → ℤ → State
with_profit s z = record { inventory = s.inventory; line = s.line; backlog = s.backlog; profit = record { 0 = z } }

unfoldable pub with_line : State → LineState → State
with_line s l = record { inventory = s.inventory; line = l; backlog = s.backlog; profit = s.profit }

unfoldable pub with_week : State → ℕ → ℕ → State
with_week s l m = with_line s (record { clock = record { 0 = m }; ran = l; mounted = s.line.mounted })

unfoldable pub with_mounted : State → Mounted → State
with_mounted s m = with_line s (record { clock = s.line.clock; ran = s.line.ran; mounted = m })

-- ---- a row and a table of numbers, each stored anew
-- cells base, .., base + n - 1: cell base + i becomes f i of what it was
abbrev pub update_row : (base n : ℕ) → (ℕ → ℕ → ℕ) → List ℕ → List ℕ
update_row base zero f l = l
update_row base (suc n) f l = set (update_row base n f l) (base + n) (f n (get_or l (base + n) 0))

-- m rows of n cells
abbrev pub update_rows : (m n : ℕ) → (ℕ → ℕ → ℕ → ℕ) → List ℕ → List ℕ
update_rows zero n f l = l
update_rows (suc m) n f l = update_row (m * n) n (f m) (update_rows m n f l)

-- ---- what a step gives back: the state with a stop or without
abbrev pub Outcome : Type 0
Outcome = Result (Unit {0}) Refusal

-- what a step gives: the state, and whether the run goes on or stops
pub record Step : Type 0 where
  pub state : State
  pub outcome : Outcome

abbrev pub continues : State → Step
continues s = record { state = s; outcome = Ok tt }

abbrev pub stops : State → Refusal → Step
stops s n = record { state = s; outcome = Err n }

-- a stop that a step tries: its refusal, and whether it is met
pub record Stop : Type 0 where
  pub refusal : Refusal
  pub met : Bool

abbrev pub stop : Refusal → Bool → Stop
stop n b = record { refusal = n; met = b }

-- the first stop that is met, of those tried in this order
abbrev pub stop_or : Bool → Refusal → Outcome → Outcome
stop_or true n next = Err n
stop_or false n next = next

abbrev pub first_met : List Stop → Outcome
first_met [] = Ok tt
first_met (t ∷ ts) = stop_or t.met t.refusal (first_met ts)

-- the state as it was before a step that stops, else the one after it
abbrev pub stepped : Outcome → (before after : State) → Step
stepped (Ok tt) before after = continues after
stepped (Err n) before after = stops before n

-- the next step where this one does not stop
abbrev pub onward : Outcome → Step → Step → Step
onward (Ok tt) a b = b
onward (Err n) a b = a

abbrev pub and_then : Step → (State → Step) → Step
and_then r next = onward r.outcome r (next r.state)

-- what the code gives back: the state after a step, or where it has stopped
abbrev pub step_of : Result State Stopped → Step
step_of (Ok s) = continues s
step_of (Err t) = stops t.state t.refusal
