-- `rolling::Rolled::write_demand_row` meets its contract. Assumes nothing.
use borrow.Author.Rules.{rules}
use native.Mathlib.Omega.{arith}
use mathlib.Core.Path.{◌≡◌, ap, ◌∙◌}
use Prim.Native.Nat.{ℕ, ◌+◌, ◌*◌, ◌/◌, ◌%◌}
use Rattle.numbers.specs.Number.{digits, store}
use Rattle.numbers.proofs.Number.{store_more}
use Rattle.plant_file.specs.Accepted.{plant_in}
use Rattle.plant_file.specs.declared.file.PlantFile.{PlantFile}
use Rattle.rolling.proofs.Rolled.write_demand_row.Goals as goal

pub loop-week-preserved : goal.loop-week-preserved
loop-week-preserved c =
    let b = c.loop-week in
    let a = c.args in
    let p = plant_in a.self.files.plant in
    let wanted : ℕ → ℕ → ℕ = λ q w. p.demand (q / p.products) (q % p.products) (a.self.weeks + w) in
    let row = c.demand_row-row in
    let demand : PlantFile → ℕ → ℕ → ℕ = λ file q w. let x = plant_in file in x.demand (q / x.products) (q % x.products) w in
    let week : c.demand-demand.result ≡ demand row.result.file row.result.pair (a.self.weeks + b.week) =
    c.demand-demand.ensures.0 ∙ ap (demand row.result.file row.result.pair) (omega arith) in
    let number = week ∙ (λ u. demand (row.ensures.0 u) (row.ensures.1 u) (a.self.weeks + b.week)) in (
      search rules,
      c.write.ensures ∙ ((λ u. store (b.invariant.1 u) (4 * b.week) (digits 4 (number u))) ∙ store_more 4 b.week (wanted a.pair) a.out.now),
    )
