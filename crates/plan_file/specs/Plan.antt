-- The numbers of a plan file, section by section, as paper 01 lists them under "Files"; the letters are source 004's. Weeks, products
-- and customers count from 0. Assumes nothing.
use Rattle.std.specs.Prelude.{ℕ, ◌+◌, ◌*◌, ◌<◌, ◌^◌, ◌≡◌, List, ℤ}
use Rattle.std.specs.Int.{w64}
use Rattle.std.proofs.Common.{SFits}
use Rattle.numbers.specs.Signed.{signed_of}
use Rattle.contents.specs.Contents.{cell}
use Rattle.sections.specs.declared.Shape.{Shape}

-- what belongs to one production line: sections 21 to 27
pub record LinePlan : Type 0 where
  -- E, F, L, by week and product: made, made first, made last
  pub assigned : ℕ → ℕ → ℕ
  pub first : ℕ → ℕ → ℕ
  pub last : ℕ → ℕ → ℕ
  -- Z and ZF, by week, product before and product after: within the week, and from an earlier week
  pub changeover : ℕ → ℕ → ℕ → ℕ
  pub week_changeover : ℕ → ℕ → ℕ → ℕ
  -- O and T, by week and product: place in the week, and minutes
  pub position : ℕ → ℕ → ℕ
  pub minutes : ℕ → ℕ → ℕ

pub record Plan : Type 0 where
  pub line : LinePlan
  -- P, grams by week and product
  pub production : ℕ → ℕ → ℕ
  -- S, grams by customer, product and week
  pub sales : ℕ → ℕ → ℕ → ℕ
  -- V, grams by week and product
  pub inventory : ℕ → ℕ → ℕ
  -- Δ, grams by customer, product and week
  pub backlog : ℕ → ℕ → ℕ → ℕ
  -- thousandths of a cent
  pub profit : ℤ

-- sections 21 to 27: week, product; Z and ZF: week, from, to
unfoldable pub line_plan_of : Shape → List ℕ → LinePlan
line_plan_of f s =
    record {
      assigned = λ w i. cell 1 s 0 (w * f.products + i);
      first = λ w i. cell 1 s 1 (w * f.products + i);
      last = λ w i. cell 1 s 2 (w * f.products + i);
      changeover = λ w i j. cell 1 s 3 ((w * f.products + i) * f.products + j);
      week_changeover = λ w i j. cell 1 s 4 ((w * f.products + i) * f.products + j);
      position = λ w i. cell 1 s 5 (w * f.products + i);
      minutes = λ w i. cell 2 s 6 (w * f.products + i);
    }

-- section 21 + k stands in place k; S and Δ stand in section 5's order
unfoldable pub plan_of : Shape → List ℕ → Plan
plan_of f s =
    record {
      line = line_plan_of f s;
      production = λ w i. cell 4 s 7 (w * f.products + i);
      sales = λ c i w. cell 4 s 8 ((c * f.products + i) * f.weeks + w);
      inventory = λ w i. cell 4 s 9 (w * f.products + i);
      backlog = λ c i w. cell 4 s 10 ((c * f.products + i) * f.weeks + w);
      profit = signed_of (cell 8 s 11 0);
    }

-- two tables with the same numbers below these bounds
abbrev pub Same2 : (m n : ℕ) → (ℕ → ℕ → ℕ) → (ℕ → ℕ → ℕ) → Type 0
Same2 m n a b = (i j : ℕ) → i < m → j < n → a i j ≡ b i j

abbrev pub Same3 : (l m n : ℕ) → (ℕ → ℕ → ℕ → ℕ) → (ℕ → ℕ → ℕ → ℕ) → Type 0
Same3 l m n a b = (h i j : ℕ) → h < l → i < m → j < n → a h i j ≡ b h i j

pub record SameLinePlan (f : Shape) (a b : LinePlan) : Type 0 where
  pub assigned : Same2 f.weeks f.products a.assigned b.assigned
  pub first : Same2 f.weeks f.products a.first b.first
  pub last : Same2 f.weeks f.products a.last b.last
  pub changeover : Same3 f.weeks f.products f.products a.changeover b.changeover
  pub week_changeover : Same3 f.weeks f.products f.products a.week_changeover b.week_changeover
  pub position : Same2 f.weeks f.products a.position b.position
  pub minutes : Same2 f.weeks f.products a.minutes b.minutes

-- two plans with the same numbers, for a plant of this shape
pub record SamePlan (f : Shape) (a b : Plan) : Type 0 where
  pub line : SameLinePlan f a.line b.line
  pub production : Same2 f.weeks f.products a.production b.production
  pub sales : Same3 f.customers f.products f.weeks a.sales b.sales
  pub inventory : Same2 f.weeks f.products a.inventory b.inventory
  pub backlog : Same3 f.customers f.products f.weeks a.backlog b.backlog
  pub profit : a.profit ≡ b.profit

-- each number of a table is below a bound
abbrev pub Below2 : (m n bound : ℕ) → (ℕ → ℕ → ℕ) → Type 0
Below2 m n bound a = (i j : ℕ) → i < m → j < n → a i j < bound

abbrev pub Below3 : (l m n bound : ℕ) → (ℕ → ℕ → ℕ → ℕ) → Type 0
Below3 l m n bound a = (h i j : ℕ) → h < l → i < m → j < n → a h i j < bound

pub record LinePlanFits (f : Shape) (a : LinePlan) : Type 0 where
  pub assigned : Below2 f.weeks f.products 2 a.assigned
  pub first : Below2 f.weeks f.products 2 a.first
  pub last : Below2 f.weeks f.products 2 a.last
  pub changeover : Below3 f.weeks f.products f.products 2 a.changeover
  pub week_changeover : Below3 f.weeks f.products f.products 2 a.week_changeover
  pub position : Below2 f.weeks f.products (2 ^ 8) a.position
  pub minutes : Below2 f.weeks f.products (2 ^ 16) a.minutes

-- the numbers fit their sections: E, F, L, Z, ZF are 0 or 1 (row 14), the others have their width
pub record PlanFits (f : Shape) (a : Plan) : Type 0 where
  pub line : LinePlanFits f a.line
  pub production : Below2 f.weeks f.products (2 ^ 32) a.production
  pub sales : Below3 f.customers f.products f.weeks (2 ^ 32) a.sales
  pub inventory : Below2 f.weeks f.products (2 ^ 32) a.inventory
  pub backlog : Below3 f.customers f.products f.weeks (2 ^ 32) a.backlog
  pub profit : SFits w64 a.profit
