-- What a plant file is: its shape, or the number of the first row of the table of refusals that turns it down. Assumes nothing.
use Rattle.std.specs.Prelude.{ℕ, ◌+◌, ◌*◌, Bool, true, ◌&&◌, ◌||◌, cond, List, [], ◌∷◌, get_or, leb, ltb, eqb}
use Rattle.mathematics.specs.Below.{all_below, within}
use Rattle.contents.specs.Contents.{extent, cell, headed, placed, sized}
use Rattle.sections.specs.Section.{in_range, diagonal_zero}
use Rattle.sections.specs.Rows.{Form, row}
use Rattle.sections.specs.Layout.{layout, lengths_of}
use Rattle.sections.specs.declared.Layout.{Layout}
use Rattle.sections.specs.declared.Shape.{Shape}
use Rattle.std.specs.Prelude.{Ok}
use Rattle.sections.specs.Limits.{most_products, most_customers, most_weeks, most_rate, most_changeover_minutes, most_changeover_cents, most_demand}
use Rattle.sections.specs.Limits.{most_unit_cost, most_storage, nothing_mounted, most_week_minutes}
use Rattle.plant_file.specs.Kinds.{plant_kind, has_mounted, file_kind}
use Rattle.plant_file.specs.Plant.{mounted_in, shut_before_in}
use Rattle.sections.specs.declared.Refusal.TheVariants as refusal

-- the kind byte; section 1: N, C, W, a byte each
unfoldable pub shape_of : List ℕ → Shape
shape_of s = record { kind = get_or s 0 0; products = cell 1 s 0 0; customers = cell 1 s 0 1; weeks = cell 1 s 0 2 }

-- row 1: the kind's number, and sections 1 to as many as the kind has
unfoldable pub plant_headed : List ℕ → Bool
plant_headed s = let k = file_kind (get_or s 0 0) in headed s k.number k.first k.sections

-- row 2: no body misplaced, and section 1 is 3 long
unfoldable pub laid_out : List ℕ → Bool
laid_out s = placed s (plant_kind (get_or s 0 0)).sections && eqb (extent s 0) 3

-- row 3: N products (1 to 16), C customers (1 to 8), W weeks (1 to 26)
unfoldable pub in_limits : Shape → Bool
in_limits f = within 1 most_products f.products && (within 1 most_customers f.customers && within 1 most_weeks f.weeks)

-- section 12, in the kinds that have it
abbrev pub mounted_layout : ℕ → List Layout
mounted_layout kind = cond (has_mounted kind) (layout 1 1 2 ∷ []) []

-- sections 1 to 11, before any others. Section 10 has the opening inventory in its first row
abbrev pub layout_before : Shape → List Layout → List Layout
layout_before f others =
    layout 1 1 3
    ∷ layout 4 1 f.products
    ∷ layout 2 f.products f.products
    ∷ layout 4 f.products f.products
    ∷ layout 4 (f.customers * f.products) f.weeks
    ∷ layout 4 f.customers f.products
    ∷ layout 4 f.customers f.products
    ∷ layout 4 1 f.products
    ∷ layout 4 f.products 2
    ∷ layout 4 (1 + f.customers) f.products
    ∷ layout 2 1 2
    ∷ others

-- sections 1 to 12
abbrev pub plant_layout : Shape → List Layout
plant_layout f = layout_before f (mounted_layout f.kind)

-- the lengths of sections 1 to 12, whether or not the kind has the last
abbrev pub all_lengths : Shape → List ℕ
all_lengths f = lengths_of (layout_before f (layout 1 1 2 ∷ []))

-- row 4: the length of each body
abbrev pub plant_lengths : Shape → List ℕ
plant_lengths f = lengths_of (plant_layout f)

-- row 5, the diagonals of sections 3 and 4: 0, but in a kind where they may be filled
unfoldable pub diagonals_in_range : List ℕ → Shape → Bool
diagonals_in_range s f =
    cond (plant_kind f.kind).diagonals true (diagonal_zero 2 s 2 f.products && diagonal_zero 4 s 3 f.products)

-- "the mounted product or 255 for none", of N products
unfoldable pub mounted_known : ℕ → ℕ → Bool
mounted_known N m = ltb m N || eqb m nothing_mounted

-- row 5, section 12: that, "then one byte, 1 .. else 0"
unfoldable pub mounted_in_range : List ℕ → Shape → Bool
mounted_in_range s f = leb (shut_before_in f s) 1 && mounted_known f.products (mounted_in f s)

-- row 5, sections 2 to 4 and 12: rates 1 to 100,000; changeover minutes 0 to 10,080 and cents 0 to 1,000,000
unfoldable pub line_in_range : List ℕ → Shape → Bool
line_in_range s f =
    in_range 4 s 1 0 f.products 1 most_rate
    && (in_range 2 s 2 0 (f.products * f.products) 0 most_changeover_minutes
    && (in_range 4 s 3 0 (f.products * f.products) 0 most_changeover_cents
    && (diagonals_in_range s f && mounted_in_range s f)))

-- row 5, sections 5 to 8: demand up to 100,000,000; price, backlog cost and inventory cost up to 100,000
unfoldable pub market_in_range : List ℕ → Shape → Bool
market_in_range s f =
    in_range 4 s 4 0 (f.customers * f.products * f.weeks) 0 most_demand
    && (in_range 4 s 5 0 (f.customers * f.products) 0 most_unit_cost
    && (in_range 4 s 6 0 (f.customers * f.products) 0 most_unit_cost && in_range 4 s 7 0 f.products 0 most_unit_cost))

-- row 5, section 9: product by product, least ≤ greatest ≤ 4,000,000,000
unfoldable pub storage_in_range : List ℕ → ℕ → Bool
storage_in_range s n = all_below n (λ i. leb (cell 4 s 8 (2 * i)) (cell 4 s 8 (2 * i + 1)) && leb (cell 4 s 8 (2 * i + 1)) most_storage)

-- row 5, section 10: opening stock up to 4,000,000,000, then opening owed up to the kind's limit
unfoldable pub opening_in_range : List ℕ → Shape → Bool
opening_in_range s f =
    in_range 4 s 9 0 f.products 0 most_storage
    && in_range 4 s 9 f.products (f.customers * f.products) 0 (plant_kind f.kind).backlog

-- row 5, section 11: 1 ≤ shortest ≤ week ≤ 10,080
unfoldable pub time_in_range : List ℕ → Bool
time_in_range s = within 1 (cell 2 s 10 1) (cell 2 s 10 0) && leb (cell 2 s 10 1) most_week_minutes

-- row 5: every number within its range
unfoldable pub plant_in_range : List ℕ → Shape → Bool
plant_in_range s f =
    line_in_range s f && (market_in_range s f && (storage_in_range s f.products && (opening_in_range s f && time_in_range s)))

-- rows 1 to 5: a plant is a file of kind 1 with sections 1 to 11, or of kind 4 with sections 1 to 12
unfoldable pub plant_form : List ℕ → Form
plant_form s =
    row refusal.PlantContents (plant_headed s)
    (row refusal.PlantPlaces (laid_out s)
    (row refusal.PlantLimits (in_limits (shape_of s))
    (row refusal.PlantLengths (sized s (plant_lengths (shape_of s)))
    (row refusal.PlantRanges (plant_in_range s (shape_of s))
    (Ok (shape_of s))))))
