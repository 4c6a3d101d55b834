-- A length that a call says lies within its output. Assumes nothing.
use Rattle.std.specs.Prelude.{ℕ, ◌≤◌, ◌≡◌}
use Rattle.std.specs.Prelude.{Ok}
use Rattle.calls.specs.Answer.{Written}

abbrev pub Within : Written → ℕ → Type 0
Within w size = (n : ℕ) → w ≡ Ok n → n ≤ size
