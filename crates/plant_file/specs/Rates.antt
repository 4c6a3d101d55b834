-- A list of rates beside a plant file (request 2026-03): a number of 4 bytes for each product. Assumes nothing.
use Rattle.std.specs.Prelude.{ℕ, ◌*◌, List, length, eqb}
use Rattle.mathematics.specs.Below.{all_below, within}
use Rattle.numbers.specs.Number.{number_at}
use Rattle.sections.specs.declared.Shape.{Shape}
use Rattle.std.specs.Prelude.{Ok}
use Rattle.sections.specs.Rows.{Form, row}
use Rattle.sections.specs.Limits.{most_rate}
use Rattle.sections.specs.declared.Refusal.TheVariants as refusal

-- number i of a list of numbers of 4 bytes
unfoldable pub listed_rate : List ℕ → ℕ → ℕ
listed_rate rates i = number_at 4 rates (4 * i)

-- "A list that isn't N rates of 4 bytes is a 4, a rate out of range a 5."
unfoldable pub rates_form : Shape → List ℕ → Form
rates_form f rates =
    row refusal.PlantLengths (eqb (length rates) (4 * f.products))
    (row refusal.PlantRanges (all_below f.products (λ i. within 1 most_rate (listed_rate rates i)))
    (Ok f))
