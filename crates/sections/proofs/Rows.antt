-- Rows that a good file has passed; what a file that is laid out holds. Assumes nothing.
use Prim.Native.Nat.{ℕ, ◌*◌, ◌≤◌, ◌<◌}
use mathlib.Core.Path.{◌≡◌, refl}
use mathlib.Core.Bool.{Bool, true, false}
use mathlib.Core.List.{List}
use mathlib.Core.Logic.{inl, inr}
use native.Mathlib.Omega.{arith}
use lib.ListN.{length, get_or}
use Rattle.numbers.specs.Number.{Width}
use Rattle.numbers.proofs.Number.{room}
use Rattle.contents.specs.Contents.{extent, Inside}
use Rattle.contents.proofs.Facts.{placed_facts, sized_at, fits}
use Rattle.sections.specs.Section.{Holds, Laid}
use Rattle.sections.specs.Rows.{Form, row}
use Rattle.sections.specs.declared.Refusal.{Refusal}
use Rattle.sections.specs.declared.Shape.{Shape}
use Rattle.std.specs.Prelude.{Ok}

-- a good file has passed the row
pub row_good : (n : Refusal) (b : Bool) (next : Form) (f : Shape) → row n b next ≡ Ok f → (b ≡ true) × (next ≡ Ok f)
row_good n true next f e = (refl, e)
row_good n false next f e = absurd (let z : ◌≡◌ {A = ℕ} 0 1 = cc in omega arith)

-- the widths
pub width1 : Width 1
width1 = inl refl

pub width2 : Width 2
width2 = inr (inl refl)

pub width4 : Width 4
width4 = inr (inr (inl refl))

pub width8 : Width 8
width8 = inr (inr (inr refl))

-- each number that a section holds lies within the file
pub holds_inside : {s : List ℕ} {i k m : ℕ} → Holds s i k m → (j : ℕ) → j < m → Inside s i k j
holds_inside {s} {i} {k} {m} h j l =
    record { width = h.width; listed = h.listed; few = h.few; within = omega (arith, h.fits, room k l) }

module _ {s lengths : List ℕ} (z : Laid s lengths) where
  pub laid_extent : (i : ℕ) → i < length lengths → extent s i ≡ get_or lengths i 0
  laid_extent i l = sized_at s lengths z.lens i l

  -- a section holds the numbers that its length has room for
  pub laid_holds : (i : ℕ) → i < length lengths → (k m : ℕ) → Width k → k * m ≤ get_or lengths i 0 → Holds s i k m
  laid_holds i l k m w h =
      record {
        width = w;
        listed = omega (arith, z.long);
        few = omega (arith, z.few);
        fits = omega (arith, fits s (length lengths) (placed_facts s (length lengths) z.lies) i l, laid_extent i l);
      }
