-- `plan_writing::RanFiles::write_inventory` meets its contract: the loop has stored the weeks below `week`, and `inventory` is that before it.
-- Assumes nothing.
use borrow.Author.Rules.{rules}
use native.Mathlib.Omega.{arith}
use mathlib.Core.Path.{◌≡◌, refl, ap, ◌∙◌}
use mathlib.Core.List.{List}
use Prim.Native.Nat.{ℕ, suc, ◌+◌, ◌*◌, ◌-◌, ◌≤◌, ◌<◌}
use lib.ListN.{length, get_or, length-take, length-drop}
use Rattle.mathematics.specs.Below.{join_below}
use Rattle.numbers.specs.Number.{encode, store}
use Rattle.numbers.proofs.Number.{encode_ext}
use Rattle.sections.specs.Section.{grid}
use Rattle.sections.specs.declared.Shape.{Shape}
use Rattle.sections.proofs.Bodies.{row_room, sized_row_stored}
use Rattle.plan_file.specs.File.{plan_bodies}
use Rattle.slot_file.specs.declared.SlotFile.{SlotFile}
use Rattle.slot_file.specs.declared.WeekRow.{WeekRow}
use Rattle.machine.specs.State.{inventory_of}
use Rattle.machine.specs.declared.State.{State}
use Rattle.machine.specs.Run.{opening, after}
use Rattle.model.proofs.States.{opening_lengths}
use Rattle.model.specs.RunTables.{run_tables}
use Rattle.plan_writing.specs.declared.RanFiles.{RanFiles}
use Rattle.plan_writing.specs.Bodies.{Shows, made_in, sold_in}
use Rattle.plan_writing.specs.Files.{ran_plant, ran_slots, tables_in}
use Rattle.plan_writing.proofs.RunWeeks.{few_products, inventory_next, inventory_covers, inventory_limit}
use Rattle.plan_writing.proofs.Files.{plant_is}
use Rattle.plan_writing.proofs.RanFiles.write_inventory.Goals as goal
use Rattle.plan_writing.proofs.RanFiles.write_inventory.Goals.{In-loop-week}

module _ (files : RanFiles) where
  abbrev f : Shape
  f = files.slots.shape

  -- the inventory before week w
  abbrev held : ℕ → ℕ → ℕ
  held w = inventory_of (after (ran_plant files) (ran_slots files) w)

  -- V of a week is the inventory before the next
  next_is : (w i : ℕ) → held (w + 1) i ≡ (tables_in files).inventory w i
  unfolding run_tables
  next_is w i = let n : w + 1 ≡ suc w = omega arith in ap (λ (v : ℕ). held v i) n

  -- a week: the row before it, and with what the week makes
  module _ (w : ℕ) (l : w < f.weeks) (row made : List ℕ) (a : Shows f.products (held w) row)
      (b : Shows f.products (λ i. get_or row i 0 + made_in f files.plant.bytes.now files.slots.bytes.now w i) made) (i : ℕ)
      (k : i < f.products) where
    made_is : get_or made i 0 ≡ held w i + made_in f files.plant.bytes.now files.slots.bytes.now w i
    made_is = b i k ∙ (λ u. a i k u + made_in f files.plant.bytes.now files.slots.bytes.now w i)

    enough : sold_in f files.slots.bytes.now w i ≤ get_or made i 0
    enough = omega (arith, made_is, inventory_covers f files.plant.bytes.now files.slots.bytes.now files.ran i k w l)

    left_is : get_or made i 0 - sold_in f files.slots.bytes.now w i ≡ held (w + 1) i
    left_is = omega (arith, made_is, inventory_next f files.plant.bytes.now files.slots.bytes.now files.ran i k w l)

-- what a row of the files makes
row_made : (files : RanFiles) (row : WeekRow) (w : ℕ) → row.file ≡ files.slots → row.week ≡ w → (before made : List ℕ)
    → Shows row.file.shape.products
    (λ i. get_or before i 0 + made_in row.file.shape files.plant.bytes.now row.file.bytes.now row.week i) made
    → Shows files.slots.shape.products
    (λ i. get_or before i 0 + made_in files.slots.shape files.plant.bytes.now files.slots.bytes.now w i) made
row_made files row w e d before made h = rw (e, d) at h

module _ (e : In-loop-week) where
  below : e.loop-week.week < e.args.self.slots.shape.weeks
  below = omega arith

  few : e.args.self.slots.shape.products ≤ 16
  few = let p = e.args.self in few_products p.slots.shape p.plant.bytes.now p.ran.plant_good

  size_is : 4 * e.from-size.result ≡ 4 * e.args.self.slots.shape.products
  size_is = ap (λ (x : ℕ). 4 * x) e.from-size.ensures

  -- the next week has room
  next_fits : 4 * e.from-size.result * e.loop-week.week + 4 * e.args.self.slots.shape.products ≤ length e.loop-week.out
  next_fits = omega (arith, row_room 4 e.args.self.slots.shape.products size_is below e.requires, e.loop-week.invariant.0)

pub loop-week-init : goal.loop-week-init
unfolding inventory_of
loop-week-init c =
    let p = c.args.self in
    let opens = c.opening_state.ensures ∙ ap opening (plant_is p) in (
      refl,
      refl,
      c.first_row-row.ensures.0,
      c.first_row-row.ensures.1,
      rw opens (opening_lengths (ran_plant p)).inventory,
      λ i l. ap (λ (s : State). get_or s.inventory i 0) opens,
    )

pub invariant_of-add_production : goal.invariant_of-add_production
invariant_of-add_production c =
    let e = (goal.at.invariant_of-add_production c).In-loop-week in
    record { same = c.loop-week.invariant.2; known = omega (arith, c.loop-week.invariant.3, below e) }

pub add_production-requires : goal.add_production-requires
add_production-requires c =
    let e = (goal.at.add_production-requires c).In-loop-week in
    let p = c.args.self in
    let b = c.loop-week in
    let products : b.row.file.shape.products ≡ p.slots.shape.products = ap (λ (x : SlotFile). x.shape.products) b.invariant.2 in (
      omega (arith, products, few e, b.invariant.4),
      λ i l. let k : i < p.slots.shape.products = omega (arith, l, products) in
          omega (arith, b.invariant.5 i k, inventory_limit p.slots.shape p.plant.bytes.now p.slots.bytes.now p.ran i k b.week (below e)),
    )

pub write_inventory_row-requires : goal.write_inventory_row-requires
write_inventory_row-requires c =
    let e = (goal.at.write_inventory_row-requires c).In-loop-week in
    let b = c.loop-week in
    let made = c.add_production.new.inventory in (
      below e,
      omega (arith, few e, c.add_production.auto.inventory, b.invariant.4),
      simp (length-take, length-drop) (omega (arith, next_fits e)),
      enough c.args.self b.week (below e) b.inventory made b.invariant.5
          (row_made c.args.self b.row b.week b.invariant.2 b.invariant.3 b.inventory made c.add_production.ensures),
    )

pub loop-week-preserved : goal.loop-week-preserved
loop-week-preserved c =
    let e = (goal.at.loop-week-preserved c).In-loop-week in
    let p = c.args.self in
    let f = p.slots.shape in
    let b = c.loop-week in
    let V = (tables_in p).inventory in
    let made = c.add_production.new.inventory in
    let left : (i : ℕ) → i < f.products → get_or made i 0 - sold_in f p.slots.bytes.now b.week i ≡ held p (b.week + 1) i =
    left_is p b.week (below e) b.inventory made b.invariant.5
    (row_made p b.row b.week b.invariant.2 b.invariant.3 b.inventory made c.add_production.ensures) in
    let stored = c.write_inventory_row.ensures.stored
    ∙ ap (store _ 0) (encode_ext 4 f.products _ (V b.week) (λ i l. left i l ∙ next_is p b.week i)) in (
      search rules,
      sized_row_stored 4 f.products V c.args.out.now b.out _ b.week (4 * c.from-size.result) (size_is e) b.invariant.1
          (omega (arith, next_fits e)) stored,
      c.next-row.ensures.0 ∙ b.invariant.2,
      c.next-row.ensures.1 ∙ ap (λ (w : ℕ). w + 1) b.invariant.3,
      search rules,
      λ i l. c.write_inventory_row.ensures.left i l ∙ left i l,
    )

pub returns : goal.returns
unfolding plan_bodies grid
returns c =
    let a = c.args in
    let b = c.loop-week in
    let f = a.self.slots.shape in
    let V = (tables_in a.self).inventory in
    let all : b.week ≡ f.weeks = omega arith in
    b.invariant.1 ∙ (λ u. store a.out.now 0 (join_below (all u) (λ w. encode 4 f.products (V w))))
