-- The rows of a plan's bodies, by place and in file order. Assumes nothing.
use Rattle.std.specs.Prelude.{ℕ, ◌*◌, ◌/◌, ◌%◌, ◌<◌, ◌≡◌, List, [], ◌∷◌, get_or}
use Rattle.mathematics.specs.Below.{sum_below}
use Rattle.numbers.specs.Signed.{unsigned_of}
use Rattle.sections.specs.Layout.{layout}
use Rattle.sections.specs.declared.Layout.{Layout}
use Rattle.sections.specs.declared.Shape.{Shape}
use Rattle.plant_file.specs.Plant.{plant_of}
use Rattle.plan_file.specs.Form.{plan_layout}
use Rattle.plan_file.specs.Plan.{Plan}
use Rattle.slot_file.specs.Slots.{slots_of}
use Rattle.model.specs.RunTables.{minutes_of}

-- the layout of the body in a place
unfoldable pub section_of : Shape → ℕ → Layout
section_of f place = get_or (plan_layout f) place (layout 0 0 0)

-- number j of row r of the body in a place
unfoldable pub row_in : Shape → Plan → (place r j : ℕ) → ℕ
row_in f x place r j =
    get_or
    (x.line.assigned r j
    ∷ x.line.first r j
    ∷ x.line.last r j
    ∷ x.line.changeover r (j / f.products) (j % f.products)
    ∷ x.line.week_changeover r (j / f.products) (j % f.products)
    ∷ x.line.position r j
    ∷ x.line.minutes r j
    ∷ x.production r j
    ∷ x.sales (r / f.products) (r % f.products) j
    ∷ x.inventory r j
    ∷ x.backlog (r / f.products) (r % f.products) j
    ∷ unsigned_of x.profit
    ∷ [])
    place 0

-- a list that begins with n given numbers
abbrev pub Shows : (n : ℕ) → (ℕ → ℕ) → List ℕ → Type 0
Shows n g row = (j : ℕ) → j < n → get_or row j 0 ≡ g j

-- what the slots of a week make of a product, and what is sold of it
abbrev pub made_in : Shape → (plant slots : List ℕ) (week i : ℕ) → ℕ
made_in f plant slots week i = (plant_of f plant).line.rate i * minutes_of ((slots_of f slots).line.week week) i

abbrev pub sold_in : Shape → (slots : List ℕ) (week i : ℕ) → ℕ
sold_in f slots week i = sum_below f.customers (λ c. (slots_of f slots).sales c i week)
