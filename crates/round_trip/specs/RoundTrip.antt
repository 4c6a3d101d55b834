-- A round trip: for a plan that passes the plan file itself comes back from its slots, with the profit that checking gives. Assumes nothing.
use Rattle.std.specs.Prelude.{ℕ, List}
use Rattle.std.specs.Prelude.{Result, Err, Ok}
use Rattle.sections.specs.declared.Refusal.{Refusal}
use Rattle.round_trip.specs.declared.Back.{Back}
use Rattle.calls.specs.Check.{Check}
use Rattle.calls.specs.Answer.{Written, Answer, bytes, refused, slot_answer, written_in}

-- what plan writing is to give where the slots were written: the plan file that the slots came from
abbrev pub plan_back : Written → (plan : List ℕ) → Answer
plan_back (Ok n) plan = bytes plan
plan_back (Err n) plan = refused n

-- that, for an output that the slots were to be written into
abbrev pub plan_again : (plant plan slots : List ℕ) → Answer
plan_again plant plan slots = plan_back (written_in (slot_answer plant plan) slots) plan

-- the plan's own profit, or the number of the refusal
abbrev pub round_trip : Check → Written → Result Back Refusal
round_trip (Ok q) (Ok n) = Ok (record { length = n; profit = q })
round_trip (Ok q) (Err n) = Err n
round_trip (Err m) w = Err m
