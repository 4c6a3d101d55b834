-- `plant_file::are_rates_in_range` meets its contract. Assumes nothing.
use mathlib.Core.Path.{refl}
use borrow.Author.Rules.{rules}
use borrow.Author.Tests.{tests}
use Rattle.mathematics.specs.Below.{within}
use Rattle.mathematics.proofs.Ranges.{all_in_range}
use Rattle.sections.specs.Limits.{most_rate}
use Rattle.plant_file.specs.Rates.{listed_rate}
use Rattle.plant_file.proofs.are_rates_in_range.Goals as goal

pub returns : goal.returns
returns c =
    all_in_range (λ i. within 1 most_rate (listed_rate c.args.rates.now i)) c.args.n _ _ _ c.all.ensures.ran refl (λ x b q k. search (rules, tests))
