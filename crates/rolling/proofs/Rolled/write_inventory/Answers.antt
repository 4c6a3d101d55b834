-- `rolling::Rolled::write_inventory` meets its contract. Assumes nothing.
use borrow.Author.Rules.{rules}
use mathlib.Core.Path.{◌∙◌}
use Prim.Native.Nat.{◌*◌, ◌-◌}
use Rattle.numbers.specs.Number.{digits, store}
use Rattle.numbers.proofs.Number.{store_more}
use Rattle.plan_file.specs.Accepted.{plan_in}
use Rattle.rolling.proofs.Rolled.write_inventory.Goals as goal

pub loop-product-preserved : goal.loop-product-preserved
loop-product-preserved c =
    let b = c.loop-product in
    let r = c.args.self in (
      search rules,
      c.write.ensures
          ∙ ((λ u. store (b.invariant.1 u) (4 * b.product) (digits 4 (c.inventory-held.ensures.0 u)))
          ∙ store_more 4 b.product ((plan_in r.files.plan).inventory (r.weeks - 1)) c.args.out.now),
    )
