-- What a plan file for a plant of a shape is: good, or the number of the first row of the table of refusals that turns it down.
-- Assumes nothing.
use Rattle.std.specs.Prelude.{ℕ, ◌*◌, Bool, ◌&&◌, List, [], ◌∷◌}
use Rattle.contents.specs.Contents.{headed, placed, sized}
use Rattle.sections.specs.Section.{in_range}
use Rattle.sections.specs.Rows.{Form, row}
use Rattle.sections.specs.Layout.{plan_kind, layout, lengths_of}
use Rattle.sections.specs.declared.Layout.{Layout}
use Rattle.sections.specs.declared.Shape.{Shape}
use Rattle.std.specs.Prelude.{Ok}
use Rattle.sections.specs.declared.Refusal.TheVariants as refusal

-- sections 21 to 32. E, F, L, O: week, product, 1 byte; Z, ZF: week, from, to, 1 byte; T 2 bytes; P, V 4 bytes; S, Δ in section 5's order,
-- 4 bytes; profit 8 bytes
abbrev pub plan_layout : Shape → List Layout
plan_layout f =
    layout 1 f.weeks f.products
    ∷ layout 1 f.weeks f.products
    ∷ layout 1 f.weeks f.products
    ∷ layout 1 f.weeks (f.products * f.products)
    ∷ layout 1 f.weeks (f.products * f.products)
    ∷ layout 1 f.weeks f.products
    ∷ layout 2 f.weeks f.products
    ∷ layout 4 f.weeks f.products
    ∷ layout 4 (f.customers * f.products) f.weeks
    ∷ layout 4 f.weeks f.products
    ∷ layout 4 (f.customers * f.products) f.weeks
    ∷ layout 8 1 1
    ∷ []

-- row 13: the length of each body
abbrev pub plan_lengths : Shape → List ℕ
plan_lengths f = lengths_of (plan_layout f)

-- row 14: no byte of E, F, L, Z, ZF above 1
unfoldable pub binary : List ℕ → Shape → Bool
binary s f =
    in_range 1 s 0 0 (f.weeks * f.products) 0 1
    && (in_range 1 s 1 0 (f.weeks * f.products) 0 1
    && (in_range 1 s 2 0 (f.weeks * f.products) 0 1
    && (in_range 1 s 3 0 (f.weeks * f.products * f.products) 0 1 && in_range 1 s 4 0 (f.weeks * f.products * f.products) 0 1)))

-- rows 11 to 14: a plan is a file of kind 2 with sections 21 to 32
unfoldable pub plan_form : Shape → List ℕ → Form
plan_form f s =
    row refusal.PlanContents (headed s plan_kind.number plan_kind.first plan_kind.sections)
    (row refusal.PlanPlaces (placed s plan_kind.sections)
    (row refusal.PlanLengths (sized s (plan_lengths f))
    (row refusal.PlanMarks (binary s f)
    (Ok f))))
