-- What the exported calls return and leave behind their pointers: 0 and the value, or the number of the refusal and nothing changed.
-- Assumes nothing.
use Rattle.std.specs.Prelude.{ℕ, ℤ, Result, Ok, Err}
use Rattle.sections.specs.declared.Refusal.{Refusal}
use Rattle.sections.specs.Rows.{refusal_number}
use Rattle.calls.specs.Check.{Check}
use Rattle.calls.specs.Answer.{Written}

abbrev pub code_of : {A : Type 0} → Result A Refusal → ℕ
code_of (Ok value) = 0
code_of (Err refusal) = refusal_number refusal

-- what is behind a pointer after a call that found old there
abbrev pub value_after : {A : Type 0} → Result A Refusal → A → A
value_after (Ok value) old = value
value_after (Err refusal) old = old

-- checking: the profit
abbrev pub check_code : Check → ℕ
check_code check = code_of check

abbrev pub profit_after : Check → ℤ → ℤ
profit_after (Ok p) old = p.0
profit_after (Err n) old = old

-- the calls that write: the length
abbrev pub written_code : Written → ℕ
written_code written = code_of written

abbrev pub length_after : Written → ℕ → ℕ
length_after written old = value_after written old
