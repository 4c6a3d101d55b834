-- What a writer of text promises. Assumes nothing.
use Rattle.std.specs.Prelude.{ℕ, ◌+◌, ◌≡◌, List, length}
use Rattle.numbers.specs.Number.{store}

-- the text stands in the output from `at` on, and the position behind it is known
pub record Stored (before : List ℕ) (at : ℕ) (text : List ℕ) (next : ℕ) (after : List ℕ) : Type 0 where
  pub end : next ≡ at + length text
  pub output : after ≡ store before at text
