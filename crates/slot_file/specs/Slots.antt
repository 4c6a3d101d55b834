-- The numbers of a slot file, section by section, as paper 01 lists them under "Files". Weeks, products and customers count from 0.
-- Assumes nothing.
use Rattle.std.specs.Prelude.{ℕ, ◌+◌, ◌*◌, ◌≤◌, ◌<◌, ◌^◌, ◌≡◌, List, [], ◌∷◌, length, get_or}
use Rattle.mathematics.specs.Below.{sum_below, list_below}
use Rattle.numbers.specs.Number.{number_at}
use Rattle.contents.specs.Contents.{offset, cell}
use Rattle.sections.specs.declared.Shape.{Shape}

-- a production run: a product and its minutes
pub record Slot : Type 0 where
  pub product : ℕ
  pub minutes : ℕ

-- what stands past the end of a list of slots
abbrev pub no_slot : Slot
no_slot = record { product = 0; minutes = 0 }

-- the products in running order
abbrev pub order_of_slots : List Slot → List ℕ
order_of_slots [] = []
order_of_slots (x ∷ xs) = x.product ∷ order_of_slots xs

-- row 24, of a week: 0 to N slots (request 2026-01), each of a product below N
pub record WeekFormed (N : ℕ) (xs : List Slot) : Type 0 where
  pub few : length xs ≤ N
  pub product : (k : ℕ) → k < length xs → (get_or xs k no_slot).product < N

-- what belongs to one production line: sections 41 and 42, each week's slots in running order
pub record LineSlots : Type 0 where
  pub week : ℕ → List Slot

pub record Slots : Type 0 where
  pub line : LineSlots
  -- grams, by customer, product and week
  pub sales : ℕ → ℕ → ℕ → ℕ

-- section 41: slots per week
unfoldable pub slot_count : List ℕ → ℕ → ℕ
slot_count s w = cell 1 s 0 w

-- section 42: slot j of all, product (1 byte) and minutes (2)
unfoldable pub slot_at : List ℕ → ℕ → Slot
slot_at s j = record { product = number_at 1 s (offset s 1 + 3 * j); minutes = number_at 2 s (offset s 1 + 3 * j + 1) }

-- the slots before week w; with w the count of weeks, all slots
unfoldable pub slots_before : List ℕ → ℕ → ℕ
slots_before s w = sum_below w (slot_count s)

-- weeks rising; sales in section 5's order
unfoldable pub slots_of : Shape → List ℕ → Slots
slots_of f s =
    record {
      line = record { week = λ w. list_below (slot_count s w) (λ k. slot_at s (slots_before s w + k)) };
      sales = λ c i w. cell 4 s 2 ((c * f.products + i) * f.weeks + w);
    }

-- two slot files' numbers are the same, for a plant of this shape
pub record SameSlots (f : Shape) (a b : Slots) : Type 0 where
  pub week : (w : ℕ) → w < f.weeks → a.line.week w ≡ b.line.week w
  pub sales : (c i w : ℕ) → c < f.customers → i < f.products → w < f.weeks → a.sales c i w ≡ b.sales c i w

-- the numbers fit their sections
pub record SlotsFit (f : Shape) (a : Slots) : Type 0 where
  pub formed : (w : ℕ) → w < f.weeks → WeekFormed f.products (a.line.week w)
  -- widths
  pub minutes : (w k : ℕ) → w < f.weeks → k < length (a.line.week w) → (get_or (a.line.week w) k no_slot).minutes < 2 ^ 16
  pub sales : (c i w : ℕ) → c < f.customers → i < f.products → w < f.weeks → a.sales c i w < 2 ^ 32
