-- `plant_file::write_rates` meets its contract: the loop has stored the rates below `i`. Assumes nothing.
use borrow.Author.Rules.{rules}
use mathlib.Core.Path.{◌∙◌}
use Prim.Native.Nat.{◌*◌}
use Rattle.numbers.specs.Number.{digits, store}
use Rattle.numbers.proofs.Number.{store_more}
use Rattle.plant_file.specs.Rates.{listed_rate}
use Rattle.plant_file.proofs.write_rates.Goals as goal

pub loop-i-preserved : goal.loop-i-preserved
loop-i-preserved c = (
  search rules,
  c.write.ensures
      ∙ ((λ u. store (c.loop-i.invariant.1 u) (4 * c.loop-i.i) (digits 4 (c.listed_rate.ensures u)))
      ∙ store_more 4 c.loop-i.i (listed_rate c.args.rates.now) c.args.out.now),
)
