-- `plan_writing::RanWeek::add_production` meets its contract: the loop has added what the slots below `k` make. Assumes nothing.
use native.Mathlib.Omega.{arith}
use native.Mathlib.Numerals.{add-one}
use native.Mathlib.Nat.{mul-le-mul}
use mathlib.Core.Path.{◌≡◌, ap, ◌∙◌}
use Prim.Native.Nat.{ℕ, ◌+◌, ◌*◌, ◌≤◌, ◌<◌}
use lib.ListN.{length, get_or, length-set}
use Rattle.mathematics.specs.Below.{is}
use Rattle.mathematics.proofs.Below.{is_le}
use Rattle.plant_file.specs.Accepted.{plant_in}
use Rattle.slot_file.specs.Accepted.{slots_in_week}
use Rattle.plan_writing.proofs.WeekRows.{row_size, few_slots}
use Rattle.plan_writing.proofs.RunWeeks.{few_products}
use Rattle.plan_writing.proofs.Amounts.{amounts, amounts_all}
use Rattle.plan_writing.proofs.Rows.{slot_added}
use Rattle.plan_writing.proofs.Files.{runs, plant_products}
use Rattle.plan_writing.proofs.RanWeek.add_production.Goals as goal

pub loop-k-preserved : goal.loop-k-preserved
loop-k-preserved c =
    let a = c.args in
    let b = c.loop-k in
    let p = c.product-product.result in
    let rate : ℕ → ℕ = (plant_in a.self.files.plant).line.rate in
    let g : ℕ → ℕ = λ j. get_or a.inventory.now j 0 + amounts rate (slots_in_week a.self.row) b.k j in
    let product_is = c.product-product.ensures.0 in
    let grams = c.produced-grams.ensures in
    let grams_is = grams.0 ∙ (λ u. (c.rate.ensures.0 ∙ ap rate product_is) u * c.minutes.ensures.0 u) in
    let held : p < length b.inventory = omega (arith, c.product-product.ensures.1, c.requires.0, b.invariant.0) in
    let e = slot_added b.inventory g p c.produced-grams.result.0 held b.invariant.1 in (
      rw length-set b.invariant.0,
      λ j. rw add-one (e j ∙ (λ u. g j + grams_is u * is (product_is u) j) ∙ omega arith),
      λ j l. omega (arith, e j, b.invariant.1 j, b.invariant.2 j l, grams.1, mul-le-mul grams.1 (is_le p j)),
    )

pub returns : goal.returns
returns c =
    let a = c.args in
    let b = c.loop-k in
    let rate : ℕ → ℕ = (plant_in a.self.files.plant).line.rate in
    let xs = slots_in_week a.self.row in
    let all : b.k ≡ length xs = omega (arith, row_size (runs c.args.self)) in
    λ j l. b.invariant.1 j
    ∙ ap (λ (x : ℕ). get_or a.inventory.now j 0 + x) (ap (λ (k : ℕ). amounts rate xs k j) all ∙ amounts_all rate xs j)

pub overflow_add-inventory : goal.overflow_add-inventory
overflow_add-inventory c =
    let p = c.args.self.files.plant in
    let few : c.args.self.row.count ≤ 16 =
    omega (arith, few_slots (runs c.args.self), plant_products c.args.self, few_products p.shape p.bytes.now p.accepted) in
    omega (arith, c.loop-k.invariant.2 c.product-product.result c.product-product.ensures.1, c.produced-grams.ensures.1, few)
