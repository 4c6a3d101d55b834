-- The bytes of a plant file with given numbers, laid out as paper 01 says under "Files" and request 2026-02 of section 12. Assumes nothing.
use Rattle.std.specs.Prelude.{ℕ, cond, List, [], ◌∷◌, ◌++◌}
use Rattle.mathematics.specs.Below.{join_below}
use Rattle.numbers.specs.Number.{digits, encode}
use Rattle.contents.specs.File.{file_of}
use Rattle.sections.specs.Section.{grid, cube}
use Rattle.plant_file.specs.Kinds.{has_mounted, file_kind}
use Rattle.plant_file.specs.Plant.{LinePlant, Plant}

-- section 12, in the kinds that have it
abbrev pub mounted_bodies : ℕ → LinePlant → List (List ℕ)
mounted_bodies kind l = cond (has_mounted kind) ((digits 1 l.mounted ++ digits 1 l.shut_before) ∷ []) []

-- the bodies of sections 1 to 12. In section 9 least and greatest stand product by product, in section 10 inventory before backlog
unfoldable pub plant_bodies : Plant → List (List ℕ)
plant_bodies p =
    (digits 1 p.products ++ (digits 1 p.customers ++ digits 1 p.weeks))
    ∷ encode 4 p.products p.line.rate
    ∷ grid 2 p.products p.products p.line.changeover_minutes
    ∷ grid 4 p.products p.products p.line.changeover_cents
    ∷ cube 4 p.customers p.products p.weeks p.demand
    ∷ grid 4 p.customers p.products p.price
    ∷ grid 4 p.customers p.products p.backlog_cost
    ∷ encode 4 p.products p.inventory_cost
    ∷ join_below p.products (λ i. digits 4 (p.least_storage i) ++ digits 4 (p.greatest_storage i))
    ∷ (encode 4 p.products p.opening_inventory ++ grid 4 p.customers p.products p.opening_backlog)
    ∷ (digits 2 p.shortest_run ++ digits 2 p.week_minutes)
    ∷ mounted_bodies p.kind p.line

unfoldable pub plant_file : Plant → List ℕ
plant_file p = let k = file_kind p.kind in file_of k.number k.first (plant_bodies p)
