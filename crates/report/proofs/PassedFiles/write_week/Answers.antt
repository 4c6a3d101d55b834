-- `report::PassedFiles::write_week` meets its contract: the lines from slot `k` on, stored, give the whole. Assumes nothing.
use borrow.Author.Rules.{rules}
use native.Mathlib.Omega.{arith}
use mathlib.Core.Path.{◌≡◌, refl, ap, ◌∙◌}
use mathlib.Core.List.{List, [], ◌∷◌, ◌++◌}
use Prim.Native.Nat.{ℕ, ◌+◌, ◌<◌}
use lib.ListN.{length, length-append}
use Rattle.std.specs.Prelude.{Some}
use Rattle.passed_plan.specs.Shown.{week_mounted}
use Rattle.report.specs.Text.{line}
use Rattle.report.proofs.StoredText.{rest_start, rest_step, rest_end}
use Rattle.report.proofs.WeekText.{lines_in, lines_all, lines_next, lines_end}
use Rattle.report.proofs.PassedFiles.write_week.Goals as goal
use Rattle.report.proofs.PassedFiles.write_week.Goals.{After-minutes}

module _ (c : After-minutes) where
  -- this slot's product is one of the plant's
  known : c.product_at-product.result < c.args.self.files.plan.shape.products
  known = omega (arith, c.args.self.ordered.known c.args.week c.loop-k.k (omega arith) (omega arith))

  -- this slot's line, and the lines after it

  abbrev here : List ℕ
  here =
      let change = c.changeover_to-change.result.minutes.0 in
      let start = c.loop-k.clock + change in
      line (c.args.week + 1) (c.product_at-product.result ∷ change ∷ start ∷ (start + c.minutes.result) ∷ [])

  abbrev later : List ℕ
  later =
      let end = c.loop-k.clock + c.changeover_to-change.result.minutes.0 + c.minutes.result in
      lines_in c.args.self c.args.week (Some c.product_at-product.result) end (c.loop-k.k + 1)

  next : let b = c.loop-k in lines_in c.args.self c.args.week b.mounted b.clock b.k ≡ here ++ later
  next =
      let a = c.args in
      let b = c.loop-k in
      let change = rw (← a.self.files.same) at c.changeover_to-change.ensures.minutes in
      lines_next _ _ _ a.week b.mounted b.clock b.k _ _ _ (omega arith) c.product_at-product.ensures c.minutes.ensures.0 change

pub loop-k-init : goal.loop-k-init
loop-k-init c =
    let a = c.args in
    let f = a.self.files.plan.shape in
    let m = rw (← a.self.files.same) at c.mounted_product-mounted.ensures in
    let before = m.0 ∙ ap (week_mounted f a.self.files.plant.bytes.now a.self.files.plan.bytes.now) (omega arith) in
    (m.1, omega arith, refl, rest_start a.out.now a.at (rw before (lines_all _ _ _ a.week)))

pub write_line-p-requires : goal.write_line-p-requires
write_line-p-requires c =
    let d = (goal.at.write_line-p-requires c).After-minutes in
    omega (arith, c.loop-k.invariant.3.size, ap length (next d), length-append (here d) (later d))

pub loop-k-preserved : goal.loop-k-preserved
loop-k-preserved c =
    let d = (goal.at.loop-k-preserved c).After-minutes in
    let w = c.write_line-p in (
      known d,
      omega arith,
      search rules,
      rest_step (here d) (later d) w.result (omega (arith, c.loop-k.invariant.3.size)) (next d) c.loop-k.invariant.3 w.ensures,
    )

pub returns : goal.returns
returns c =
    let b = c.loop-k in
    let count = c.week_count-k-end in
    let e : b.k ≡ count.result = omega arith in
    rest_end (rw (e ∙ count.ensures.0) (lines_end _ _ _ c.args.week b.mounted b.clock)) b.invariant.3
