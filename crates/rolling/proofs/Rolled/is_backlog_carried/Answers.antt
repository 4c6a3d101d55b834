-- `rolling::Rolled::is_backlog_carried` meets its contract. Assumes nothing.
use Rattle.std.proofs.Common.{rules, ℕ, ◌-◌, ◌*◌, ◌/◌, ◌%◌, ◌≡◌, sym, ap, ◌∙◌}
use borrow.Author.Tests.{tests}
use lib.Dec.{leb}
use Rattle.mathematics.specs.Below.{all_below}
use Rattle.mathematics.proofs.Ranges.{all_in_range}
use Rattle.mathematics.proofs.Tables.{all_table}
use Rattle.sections.specs.Limits.{most_opening_backlog}
use Rattle.plant_file.specs.Accepted.{plant_in}
use Rattle.plan_file.specs.Accepted.{plan_in}
use Rattle.model.specs.Rolled.{backlog_carried}
use Rattle.model.proofs.RolledTests.{backlog_after_lem}
use Rattle.rolling.specs.declared.Rolled.{Rolled}
use Rattle.rolling.proofs.Rolled.is_backlog_carried.Goals as goal

-- by pairs, as the files hold them
by_pairs : (r : Rolled) → let f = r.files.plant.shape in
    all_below (f.customers * f.products)
    (λ k. leb ((plan_in r.files.plan).backlog (k / f.products) (k % f.products) (r.weeks - 1)) most_opening_backlog)
    ≡ backlog_carried (plant_in r.files.plant) (plan_in r.files.plan) r.weeks
unfolding backlog_carried
by_pairs r =
    let f = r.files.plant.shape in
    sym (all_table f.customers f.products (λ c i. leb ((plan_in r.files.plan).backlog c i (r.weeks - 1)) most_opening_backlog))
    ∙ ap (λ (owed : ℕ → ℕ → ℕ). all_below f.customers (λ c. all_below f.products (λ i. leb (owed c i) most_opening_backlog)))
    (sym (backlog_after_lem (plant_in r.files.plant) (plan_in r.files.plan) r.weeks r.some))

pub returns : goal.returns
returns c =
    rw (← (by_pairs c.args.self))
    (all_in_range _ _ _ _ _ c.all.ensures.ran (λ u. record { start = 0; end = c.area.ensures.0 u }) (λ x b q k. search (rules, tests)))
