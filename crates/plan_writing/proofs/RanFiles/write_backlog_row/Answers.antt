-- `plan_writing::RanFiles::write_backlog_row` meets its contract: the loop has stored the weeks below `week`. Assumes nothing.
use borrow.Author.Rules.{rules}
use native.Mathlib.Omega.{arith}
use native.Mathlib.Nat.{div-lt_iff_lt-mul, mod-lt}
use mathlib.Core.Path.{◌≡◌, refl, ap, ◌∙◌}
use mathlib.Core.List.{List}
use Prim.Native.Nat.{ℕ, suc, ◌+◌, ◌*◌, ◌/◌, ◌%◌, ◌-◌, ◌≤◌, ◌<◌}
use Rattle.numbers.specs.Number.{digits, encode, store}
use Rattle.numbers.proofs.Number.{store_more}
use Rattle.plant_file.specs.Plant.{Plant}
use Rattle.plant_file.specs.Accepted.{plant_in}
use Rattle.slot_file.specs.Slots.{Slots, slots_of}
use Rattle.machine.specs.State.{backlog_of}
use Rattle.machine.specs.Run.{after}
use Rattle.model.specs.RunTables.{run_tables}
use Rattle.plan_writing.specs.declared.RanFiles.{RanFiles}
use Rattle.plan_writing.specs.Files.{ran_plant, ran_slots, tables_in}
use Rattle.plan_writing.proofs.RunWeeks.{sides, backlog_first, backlog_next, backlog_covers}
use Rattle.plan_writing.proofs.Files.{plant_is}
use Rattle.plan_writing.proofs.RanFiles.write_backlog_row.Goals as goal
use Rattle.plan_writing.proofs.RanFiles.write_backlog_row.Goals.{After-sales}

module _ (files : RanFiles) (pair : ℕ) (l : pair < files.slots.shape.customers * files.slots.shape.products) where
  abbrev P : Plant
  P = ran_plant files

  abbrev S : Slots
  S = ran_slots files

  abbrev products : ℕ
  products = files.slots.shape.products

  abbrev customer : ℕ
  customer = pair / products

  abbrev product : ℕ
  product = pair % products

  some_products : 0 < products
  some_products = (sides files.slots.shape files.plant.bytes.now files.ran.plant_good).0

  customer_known : customer < files.slots.shape.customers
  customer_known = (div-lt_iff_lt-mul some_products).1 l

  product_known : product < products
  product_known = mod-lt pair some_products

  -- the backlog after w weeks
  abbrev owed : ℕ → ℕ
  owed w = backlog_of products (after P S w) customer product

  first : P.opening_backlog customer product ≡ owed 0
  first = backlog_first files.slots.shape files.plant.bytes.now files.slots.bytes.now files.ran product product_known customer customer_known

  next : (w : ℕ) → w < files.slots.shape.weeks → owed w + P.demand customer product w - S.sales customer product w ≡ owed (w + 1)
  next = backlog_next files.slots.shape files.plant.bytes.now files.slots.bytes.now files.ran product product_known customer customer_known

  covers : (w : ℕ) → w < files.slots.shape.weeks → S.sales customer product w ≤ owed w + P.demand customer product w
  covers = backlog_covers files.slots.shape files.plant.bytes.now files.slots.bytes.now files.ran product product_known customer customer_known

  abbrev table : ℕ → ℕ
  table = (tables_in files).backlog customer product

  -- one week more stored
  more : (start out : List ℕ) (w v : ℕ) → out ≡ store start 0 (encode 4 w table) → v ≡ owed (w + 1)
      → store out (4 * w) (digits 4 v) ≡ store start 0 (encode 4 (w + 1) table)
  unfolding run_tables
  more start out w v e d =
      let later : w + 1 ≡ suc w = omega arith in
      (λ u. store (e u) (4 * w) (digits 4 ((d ∙ ap owed later) u))) ∙ store_more 4 w table start

-- the numbers of week `week`
module _ (c : After-sales) where
  abbrev files : RanFiles
  files = c.args.self

  abbrev week : ℕ
  week = c.loop-week.week

  below : week < files.slots.shape.weeks
  below = omega arith

  demand_is : c.demand.result ≡ (ran_plant files).demand (c.args.pair / files.slots.shape.products) (c.args.pair % files.slots.shape.products) week
  demand_is =
      let r = c.demand_row-demand.ensures in
      c.demand.ensures.0
      ∙ (λ u. let P = plant_in (r.0 u) in P.demand (r.1 u / P.products) (r.1 u % P.products) week)
      ∙ (λ u. let P = plant_is files u in P.demand (c.args.pair / P.products) (c.args.pair % P.products) week)

  sales_is : c.sales.result ≡ (ran_slots files).sales (c.args.pair / files.slots.shape.products) (c.args.pair % files.slots.shape.products) week
  sales_is =
      let r = c.sales_row-sales.ensures in
      c.sales.ensures.0
      ∙ (λ u. (slots_of (r.0 u).shape (r.0 u).bytes.now).sales (r.1 u / (r.0 u).shape.products) (r.1 u % (r.0 u).shape.products) week)

  next_is : c.loop-week.backlog + c.demand.result - c.sales.result ≡ owed files c.args.pair c.requires.0 (week + 1)
  next_is = omega (arith, c.loop-week.invariant.1, demand_is, sales_is, next files c.args.pair c.requires.0 week below)

  enough : c.sales.result ≤ c.loop-week.backlog + c.demand.result
  enough = omega (arith, c.loop-week.invariant.1, demand_is, sales_is, covers files c.args.pair c.requires.0 week below)

pub loop-week-init : goal.loop-week-init
loop-week-init c =
    let a = c.args in
    let pair = a.pair in
    let opening = c.pair_opening_backlog-backlog.ensures.0 ∙ (λ u. let P = plant_is a.self u in P.opening_backlog (pair / P.products) (pair % P.products)) in
    (refl, opening ∙ first a.self pair c.requires.0, search rules, refl)

pub overflow_sub-backlog : goal.overflow_sub-backlog
overflow_sub-backlog c = enough (goal.at.overflow_sub-backlog c).After-sales

pub loop-week-preserved : goal.loop-week-preserved
loop-week-preserved c =
    let a = c.args in
    let b = c.loop-week in
    let next = next_is (goal.at.loop-week-preserved c).After-sales in (
      search rules,
      next,
      omega (arith, c.demand.ensures.1),
      c.write.ensures ∙ more a.self a.pair c.requires.0 a.out.now b.out b.week _ b.invariant.3 next,
    )
