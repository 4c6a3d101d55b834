-- `slot_return::ShownSlots::write_body` meets its contract, place by place. Assumes nothing.
use native.Mathlib.Omega.{arith}
use mathlib.Core.Path.{◌≡◌, sym, ap, ◌∙◌}
use Rattle.numbers.specs.Number.{store}
use Rattle.slot_return.specs.Bodies.{body_in}
use Rattle.slot_return.proofs.ShownFile.{sales_body, bodies_count, body_size}
use Rattle.slot_return.proofs.ShownSlotsFileWriter.write_body.Goals as goal
use Rattle.slot_return.proofs.ShownSlotsFileWriter.write_body.Goals.{In_default}

-- the place of the sales
last : (c : In_default) → c.args.place ≡ 2
last c = omega (arith, bodies_count c.args.self, c.requires.0)

pub write_sales-requires : goal.write_sales-requires
write_sales-requires c =
    let e = last (goal.at.write_sales-requires c).In_default in
    omega (arith, body_size c.args.self 2, rw e at c.requires.1)

pub returns-in_default : goal.returns-in_default
returns-in_default c =
    let e = last (goal.at.returns-in_default c).In_default in
    c.write_sales.ensures ∙ ap (store c.args.out.now 0) (sales_body c.args.self ∙ ap (body_in c.args.self) (sym e))
