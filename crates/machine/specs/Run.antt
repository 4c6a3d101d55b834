-- The run of a slot file, as paper 01 has it under "The plant machine". Assumes nothing.
use Rattle.std.specs.Prelude.{ℕ, zero, suc, ◌+◌, List, [], ◌∷◌, replicate, pos}
use Rattle.plant_file.specs.Plant.{LinePlant, Plant}
use Rattle.slot_file.specs.Slots.{Slot, Slots}
use Rattle.costs.specs.Mounted.{opening_mounted}
use Rattle.machine.specs.declared.State.{State}
use Rattle.machine.specs.State.{Step, update_row, update_rows, continues, and_then}
use Rattle.machine.specs.Machine.{week_begin, slot_done, slot_step, WeekInput, week_input, week_done, week_end}

-- "the machine begun from that mounted product" (request 2026-02); "the purse (0 at first)"; "begins with section 10's stock and owed"
unfoldable pub opening : Plant → State
opening P =
    record {
      inventory = update_row 0 P.products (λ i _. P.opening_inventory i) (replicate 16 0);
      backlog = update_rows P.customers P.products (λ c i _. P.opening_backlog c i) (replicate 128 0);
      line = record { clock = record { 0 = 0 }; ran = 0; mounted = opening_mounted P.line };
      profit = record { 0 = pos 0 };
    }

-- "its slots run in their order"; "The first stop ends the run."
abbrev pub run_slots : Plant → LinePlant → List Slot → State → Step
run_slots P l [] s = continues s
run_slots P l (x ∷ xs) s = and_then (slot_step P l x s) (run_slots P l xs)

-- "the week begins, its slots run in their order, the week ends with its sales of section 43"
unfoldable pub run_week : Plant → WeekInput → State → Step
run_week P v s = and_then (run_slots P P.line v.slots (week_begin s)) (week_end P v)

-- "takes the weeks in order": so many weeks, from w on
abbrev pub run_weeks : Plant → (ℕ → WeekInput) → (left w : ℕ) → State → Step
run_weeks P weeks zero w s = continues s
run_weeks P weeks (suc left) w s = and_then (run_week P (weeks w) s) (run_weeks P weeks left (w + 1))

unfoldable pub run : Plant → Slots → Step
run P S = run_weeks P (week_input P S) P.weeks 0 (opening P)

-- ---- the states that a run without a stop passes through
abbrev pub slots_done : LinePlant → List Slot → State → State
slots_done l [] s = s
slots_done l (x ∷ xs) s = slots_done l xs (slot_done l x s)

-- when the slots of a week have run
unfoldable pub ran_week : Plant → WeekInput → State → State
ran_week P v s = slots_done P.line v.slots (week_begin s)

-- after the first w weeks
abbrev pub after : Plant → Slots → ℕ → State
after P S zero = opening P
after P S (suc w) = week_done P (week_input P S w) (ran_week P (week_input P S w) (after P S w))
