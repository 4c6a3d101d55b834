-- `plant_file::write_rates` meets its contract: the loop has stored the rates below `i`. Assumes nothing.
use mathlib.Core.Path.{◌≡◌}
use lib.ListN.{length}
use Rattle.numbers.specs.Number.{encode, store}
use Rattle.plant_file.specs.Rates.{listed_rate}
use Rattle.plant_file.proofs.write_rates.Given as goal

abbrev pub invariant-loop-i : goal.invariant-loop-i
invariant-loop-i l = (length l.out ≡ length l.initial.out) × (l.out ≡ store l.initial.out 0 (encode 4 l.i (listed_rate l.rates)))
