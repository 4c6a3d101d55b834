-- `rolling::Rolled::write_backlog` meets its contract. Assumes nothing.
use borrow.Author.Rules.{rules}
use native.Mathlib.Omega.{arith}
use mathlib.Core.Path.{◌≡◌, sym, ap, ◌∙◌}
use mathlib.Core.List.{List}
use Prim.Native.Nat.{ℕ, ◌+◌, ◌*◌, ◌/◌, ◌%◌, ◌-◌}
use Rattle.numbers.specs.Number.{digits, encode, store}
use Rattle.numbers.proofs.Number.{store_more}
use Rattle.sections.proofs.Tables.{grid_encode}
use Rattle.plan_file.specs.Accepted.{plan_in}
use Rattle.rolling.proofs.Rolled.write_backlog.Goals as goal

-- a number more is stored, whichever call gave it
stored : (owed : ℕ → ℕ) (pair value : ℕ) (first before after : List ℕ) → after ≡ store before (4 * pair) (digits 4 value)
    → before ≡ store first 0 (encode 4 pair owed) → value ≡ owed pair → after ≡ store first 0 (encode 4 (pair + 1) owed)
stored owed pair value first before after w h v = w ∙ ((λ u. store (h u) (4 * pair) (digits 4 (v u))) ∙ store_more 4 pair owed first)

pub loop-pair-preserved : goal.loop-pair-preserved
loop-pair-preserved c =
    let b = c.loop-pair in
    let r = c.args.self in
    let n = r.files.plant.shape.products in
    let owed : ℕ → ℕ = λ j. (plan_in r.files.plan).backlog (j / n) (j % n) (r.weeks - 1) in (
      search rules,
      stored owed b.pair _ c.args.out.now _ _ c.write.ensures b.invariant.1 (search rules),
    )

pub returns : goal.returns
returns c =
    let r = c.args.self in
    let f = r.files.plant.shape in
    let all : c.loop-pair.pair ≡ f.customers * f.products = omega (arith, c.area-pair-end.ensures.0) in
    rw all at c.loop-pair.invariant.1
    ∙ ap (store c.args.out.now 0) (sym (grid_encode 4 f.customers f.products (λ c i. (plan_in r.files.plan).backlog c i (r.weeks - 1))))
