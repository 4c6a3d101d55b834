-- `plan_writing::RanFiles::write_line` meets its contract: the loop has stored the rows of the weeks below `week` over zeros. Assumes nothing.
use borrow.Author.Rules.{rules}
use native.Mathlib.Omega.{arith}
use native.Mathlib.Nat.{mul_comm}
use mathlib.Core.Path.{◌≡◌, refl, sym, ap, ◌∙◌}
use mathlib.Core.List.{List, ◌++◌}
use Prim.Native.Nat.{ℕ, suc, ◌+◌, ◌*◌, ◌≤◌, ◌<◌}
use lib.ListN.{length, get_or, drop}
use lib.Seq.{length-take-le}
use Rattle.mathematics.specs.Below.{join_below}
use Rattle.numbers.specs.Number.{encode, store}
use Rattle.numbers.proofs.Number.{room}
use Rattle.sections.specs.Layout.{layout}
use Rattle.sections.specs.declared.Layout.{Layout}
use Rattle.sections.specs.declared.Shape.{Shape}
use Rattle.sections.proofs.Bodies.{rows_length, sized_row_stored}
use Rattle.plant_file.specs.Plant.{Plant}
use Rattle.plan_file.specs.Form.{plan_layout, plan_lengths}
use Rattle.plan_file.specs.Plan.{Plan}
use Rattle.slot_file.specs.Slots.{slots_of, order_of_slots}
use Rattle.costs.specs.Mounted.{opening_mounted}
use Rattle.machine.specs.Run.{opening}
use Rattle.model.specs.RunTables.{last_of, mounted_at}
use Rattle.model.proofs.RunStates.{after_mounted}
use Rattle.plan_writing.specs.Ran.{Cleared}
use Rattle.plan_writing.specs.Bodies.{section_of, row_in}
use Rattle.plan_writing.specs.declared.RanFiles.{RanFiles}
use Rattle.plan_writing.specs.Files.{ran_plant, ran_slots, tables_in}
use Rattle.plan_writing.proofs.Files.{plant_is}
use Rattle.plan_writing.proofs.Zeros.{zeros_stored, cleared_as, over_zeros, rest_cleared}
use Rattle.plan_writing.proofs.Bodies.{body_is, body_length, week_rows}
use Rattle.plan_writing.proofs.RanFiles.write_line.Goals as goal
use Rattle.plan_writing.proofs.RanFiles.write_line.Goals.{In-loop-week}

-- the layout, and the body's length
module _ (f : Shape) (place : ℕ) {l : Layout} (e : l ≡ get_or (plan_layout f) place (layout 0 0 0)) where
  width_is : l.width ≡ (section_of f place).width
  unfolding section_of
  width_is = ap (λ (l : Layout). l.width) e

  columns_is : l.columns ≡ (section_of f place).columns
  unfolding section_of
  columns_is = ap (λ (l : Layout). l.columns) e

  length_is : (x : Plan) (weeks : ℕ) → place < 8 → weeks ≡ f.weeks → l.width * l.columns * weeks ≡ get_or (plan_lengths f) place 0
  length_is x weeks known d =
      let rows = week_rows f place known in
      (λ u. width_is u * columns_is u * (d ∙ sym rows) u)
      ∙ (mul_comm ((section_of f place).width * (section_of f place).columns) (section_of f place).rows
      ∙ body_length f x place (omega (arith, known)))

-- as many bytes as the body has
module _ (files : RanFiles) (place : ℕ) (known : place < 8) {l : Layout} (e : l ≡ get_or (plan_layout files.slots.shape) place (layout 0 0 0))
    {weeks : ℕ} (d : weeks ≡ files.slots.shape.weeks) (out : List ℕ) (h : get_or (plan_lengths files.slots.shape) place 0 ≤ length out) where
  fits : l.width * l.columns * weeks ≤ length out
  fits = omega (arith, length_is files.slots.shape place e (tables_in files) weeks known d, h)

-- a week's row
module _ (c : In-loop-week) where
  abbrev files : RanFiles
  files = c.args.self

  abbrev f : Shape
  f = files.slots.shape

  abbrev width : ℕ
  width = c.layout-x.result.width

  abbrev columns : ℕ
  columns = (section_of f c.args.place).columns

  abbrev size : ℕ
  size = width * c.layout-x.result.columns

  abbrev total : ℕ
  total = size * c.from-weeks.result

  abbrev start : List ℕ
  start = c.fill.new.self ++ drop total c.args.out.now

  -- the bytes are 0
  zeros : Cleared total start
  zeros =
      let enough = fits files c.args.place c.requires.0 c.layout-x.ensures.0 c.from-weeks.ensures c.args.out.now c.requires.1 in
      cleared_as total c.args.out.now enough start
      (zeros_stored total c.args.out.now enough c.fill.new.self (c.fill.ensures.after (λ y e. e)))

  below : c.loop-week.week < f.weeks
  below = omega (arith, c.from-weeks.ensures)

  size_is : size ≡ width * columns
  size_is = ap (λ (n : ℕ). width * n) (columns_is f c.args.place c.layout-x.ensures.0)

  -- it has room
  next_fits : size * c.loop-week.week + width * columns ≤ total
  next_fits = omega (arith, room size c.loop-week-test.true, size_is)

  row_fits : size * c.loop-week.week + width * columns ≤ length c.loop-week.out
  row_fits = omega (arith, next_fits, zeros.room, c.loop-week.invariant.0)

pub slice_bounds-fill-end : goal.slice_bounds-fill-end
slice_bounds-fill-end c =
    fits c.args.self c.args.place c.requires.0 c.layout-x.ensures.0 c.from-weeks.ensures c.args.out.now c.requires.1

pub slice_bounds-fill-end-2 : goal.slice_bounds-fill-end-2
slice_bounds-fill-end-2 c =
    sym (length-take-le _ c.args.out.now
    (fits c.args.self c.args.place c.requires.0 c.layout-x.ensures.0 c.from-weeks.ensures c.args.out.now c.requires.1))

pub loop-week-init : goal.loop-week-init
unfolding opening
loop-week-init c = (
  refl,
  refl,
  c.first_row-row.ensures.0,
  c.first_row-row.ensures.1,
  c.opening_mounted-mounted.ensures.0 ∙ ap (λ (p : Plant). opening_mounted p.line) (plant_is c.args.self),
)

pub invariant_of-ran : goal.invariant_of-ran
invariant_of-ran c =
    let e = (goal.at.invariant_of-ran c).In-loop-week in
    record { same = c.loop-week.invariant.2; known = omega (arith, c.loop-week.invariant.3, below e) }

pub slice_bounds-write_row-count : goal.slice_bounds-write_row-count
slice_bounds-write_row-count c = omega (arith, row_fits (goal.at.slice_bounds-write_row-count c).In-loop-week)

pub slice_bounds-write_row-start : goal.slice_bounds-write_row-start
slice_bounds-write_row-start c = omega (arith, row_fits (goal.at.slice_bounds-write_row-start c).In-loop-week)

pub write_row-requires : goal.write_row-requires
write_row-requires c =
    let e = (goal.at.write_row-requires c).In-loop-week in
    let a = c.args in
    let b = c.loop-week in
    let row = row_in (f e) (tables_in a.self) a.place in (
      b.invariant.4 ∙ ap (mounted_at (ran_plant a.self) (ran_slots a.self)) (sym b.invariant.3),
      c.requires.0,
      width_is (f e) a.place c.layout-x.ensures.0,
      rest_cleared (total e) (width e * columns e) (size e * b.week) (start e)
          (join_below b.week (λ q. encode (width e) (columns e) (row q))) b.out (zeros e) (next_fits e)
          (rows_length (width e) (columns e) b.week row
          ∙ (mul_comm b.week (width e * columns e) ∙ ap (λ (n : ℕ). n * b.week) (sym (size_is e)))) b.invariant.1,
    )

pub loop-week-preserved : goal.loop-week-preserved
loop-week-preserved c =
    let e = (goal.at.loop-week-preserved c).In-loop-week in
    let a = c.args in
    let b = c.loop-week in
    let P = ran_plant a.self in
    let S = ran_slots a.self in
    let row = row_in (f e) (tables_in a.self) a.place in
    let next : suc b.week ≡ b.week + 1 = omega arith in (
      search rules,
      sized_row_stored (width e) (columns e) row (start e) b.out _ b.week (size e) (size_is e) b.invariant.1 (omega (arith, row_fits e))
          (c.write_row.ensures ∙ ap (store _ 0) (ap (λ (w : ℕ). encode (width e) (columns e) (row w)) b.invariant.3)),
      c.next-row.ensures.0 ∙ b.invariant.2,
      c.next-row.ensures.1 ∙ ap (λ (w : ℕ). w + 1) b.invariant.3,
      c.mounted_after-mounted.ensures
          ∙ ((λ u. last_of (b.invariant.4 u)
          (order_of_slots ((slots_of (b.invariant.2 u).shape (b.invariant.2 u).bytes.now).line.week (b.invariant.3 u))))
          ∙ (sym (after_mounted P S b.week) ∙ ap (mounted_at P S) next)),
    )

pub returns : goal.returns
returns c =
    let a = c.args in
    let b = c.loop-week in
    let f = a.self.slots.shape in
    let x = tables_in a.self in
    let l = c.layout-x.result in
    let row = row_in f x a.place in
    let columns = (section_of f a.place).columns in
    let total = l.width * l.columns * c.from-weeks.result in
    let last : b.week ≡ c.from-weeks.result = omega arith in
    let all : b.week ≡ (section_of f a.place).rows = last ∙ (c.from-weeks.ensures ∙ sym (week_rows f a.place c.requires.0)) in
    let enough = fits a.self a.place c.requires.0 c.layout-x.ensures.0 c.from-weeks.ensures a.out.now c.requires.1 in
    let rows = join_below b.week (λ q. encode l.width columns (row q)) in
    let whole : length rows ≡ total =
    rows_length l.width columns b.week row
    ∙ ((λ u. last u * (l.width * sym (columns_is f a.place c.layout-x.ensures.0) u)) ∙ mul_comm c.from-weeks.result (l.width * l.columns)) in
    b.invariant.1
    ∙ (ap (λ (l : List ℕ). store l 0 rows) (zeros_stored total a.out.now enough c.fill.new.self (c.fill.ensures.after (λ y e. e)))
    ∙ (over_zeros total a.out.now enough rows whole
    ∙ ap (store a.out.now 0)
    ((λ u. join_below (all u) (λ q. encode (width_is f a.place c.layout-x.ensures.0 u) columns (row q))) ∙ body_is f x a.place (omega (arith, c.requires.0)))))
