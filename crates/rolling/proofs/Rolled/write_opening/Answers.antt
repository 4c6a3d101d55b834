-- `rolling::Rolled::write_opening` meets its contract: two stores, the second where the first ends. Assumes nothing.
use borrow.Author.Rules.{rules}
use borrow.Rule.Slice.PartMut.{put_mid}
use native.Mathlib.Omega.{arith}
use mathlib.Core.Path.{◌≡◌, ap, ◌∙◌}
use Prim.Native.Nat.{◌+◌, ◌*◌, ◌-◌}
use lib.ListN.{length}
use Rattle.numbers.specs.Number.{encode, store}
use Rattle.numbers.proofs.Number.{encode_length}
use Rattle.numbers.proofs.Store.{store_store, part_store}
use Rattle.sections.specs.Section.{grid}
use Rattle.plan_file.specs.Accepted.{plan_in}
use Rattle.rolling.proofs.Rolled.write_opening.Goals as goal

pub returns : goal.returns
returns c =
    let r = c.args.self in
    let f = r.files.plant.shape in
    let x = plan_in r.files.plan in
    let out = c.write_inventory.new.out in
    let at = 4 * c.from-at.result in
    let stock = encode 4 f.products (x.inventory (r.weeks - 1)) in
    let owed = grid 4 f.customers f.products (λ c i. x.backlog c i (r.weeks - 1)) in
    let there : at ≡ 0 + length stock = omega (arith, c.from-at.ensures, encode_length 4 f.products (x.inventory (r.weeks - 1))) in
    ap (put_mid at (length out - at) out) c.write_backlog.ensures
    ∙ (part_store out at owed (search rules)
    ∙ ((λ u. store (c.write_inventory.ensures u) (there u) owed) ∙ store_store c.args.out.now 0 stock owed (omega arith)))
