-- The bytes of a plan file with given numbers, laid out as paper 01 says under "Files". Assumes nothing.
use Rattle.std.specs.Prelude.{ℕ, List, [], ◌∷◌}
use Rattle.numbers.specs.Number.{digits}
use Rattle.numbers.specs.Signed.{unsigned_of}
use Rattle.contents.specs.File.{file_of}
use Rattle.sections.specs.Section.{grid, cube}
use Rattle.sections.specs.Layout.{plan_kind}
use Rattle.sections.specs.declared.Shape.{Shape}
use Rattle.plan_file.specs.Plan.{Plan}

-- the bodies of sections 21 to 32
unfoldable pub plan_bodies : Shape → Plan → List (List ℕ)
plan_bodies f x =
    grid 1 f.weeks f.products x.line.assigned
    ∷ grid 1 f.weeks f.products x.line.first
    ∷ grid 1 f.weeks f.products x.line.last
    ∷ cube 1 f.weeks f.products f.products x.line.changeover
    ∷ cube 1 f.weeks f.products f.products x.line.week_changeover
    ∷ grid 1 f.weeks f.products x.line.position
    ∷ grid 2 f.weeks f.products x.line.minutes
    ∷ grid 4 f.weeks f.products x.production
    ∷ cube 4 f.customers f.products f.weeks x.sales
    ∷ grid 4 f.weeks f.products x.inventory
    ∷ cube 4 f.customers f.products f.weeks x.backlog
    ∷ digits 8 (unsigned_of x.profit)
    ∷ []

unfoldable pub plan_file : Shape → Plan → List ℕ
plan_file f x = file_of plan_kind.number plan_kind.first (plan_bodies f x)
