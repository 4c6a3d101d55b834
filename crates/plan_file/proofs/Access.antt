-- How a number of a good plan file is read: it lies within the file, and what was read has its range. Assumes nothing.
use Prim.Native.Nat.{ℕ, ◌+◌, ◌*◌, ◌/◌, ◌%◌, ◌^◌, ◌<◌}
use mathlib.Core.Path.{◌≡◌, refl, sym}
use mathlib.Core.List.{List}
use native.Mathlib.Omega.{arith}
use native.Mathlib.Nat.{div-add-mod'}
use lib.ListN.{get_or}
use Rattle.numbers.specs.Number.{Width}
use Rattle.contents.specs.Contents.{cell, Inside}
use Rattle.sections.specs.Section.{Holds}
use Rattle.sections.specs.declared.Shape.{Shape}
use Rattle.std.specs.Prelude.{Ok}
use Rattle.sections.proofs.Rows.{width1, width2, width4, laid_holds, holds_inside}
use Rattle.sections.proofs.Layouts.{table_rows}
use Rattle.plan_file.specs.Plan.{line_plan_of, plan_of}
use Rattle.plan_file.specs.Form.{plan_lengths, plan_form}
use Rattle.plan_file.specs.Tables.{product_table_of, product_place, product_width, most_of, changeover_table_of, changeover_place}
use Rattle.plan_file.specs.Tables.{pair_table_of, pair_place}
use Rattle.plan_file.specs.declared.ProductTable.{ProductTable}
use Rattle.plan_file.specs.declared.ProductTable.TheVariants.{Assigned, First, Last, Position, Minutes, Production, Inventory}
use Rattle.plan_file.specs.declared.ChangeoverTable.{ChangeoverTable}
use Rattle.plan_file.specs.declared.ChangeoverTable.TheVariants.{Within, Between}
use Rattle.plan_file.specs.declared.PairTable.{PairTable}
use Rattle.plan_file.specs.declared.PairTable.TheVariants.{Sales, Backlog}
use Rattle.plan_file.proofs.PlanReads.{plan_good, bit_below}

-- number j of the m numbers of k bytes that make up the section in a place
pub inside : (f : Shape) (s : List ℕ) → plan_form f s ≡ Ok f → (place : ℕ) → place < 12 → {k m j : ℕ} → Width k
    → get_or (plan_lengths f) place 0 ≡ k * m → j < m → Inside s place k j
inside f s h place l {k} {m} {j} w e q = holds_inside (laid_holds (plan_good f s h).laid place l k m w (omega arith)) j q

-- a number by week and product, by the name of its table
pub product_reads : (t : ProductTable) (f : Shape) (s : List ℕ) (w i : ℕ)
    → product_table_of t (plan_of f s) w i ≡ cell (product_width t) s (product_place t) (w * f.products + i)
unfolding plan_of line_plan_of
product_reads Assigned f s w i = refl
product_reads First f s w i = refl
product_reads Last f s w i = refl
product_reads Position f s w i = refl
product_reads Minutes f s w i = refl
product_reads Production f s w i = refl
product_reads Inventory f s w i = refl

pub product_inside : (t : ProductTable) (f : Shape) (s : List ℕ) → plan_form f s ≡ Ok f → {j : ℕ} → j < f.weeks * f.products
    → Inside s (product_place t) (product_width t) j
product_inside Assigned f s h q = inside f s h 0 (omega arith) width1 refl q
product_inside First f s h q = inside f s h 1 (omega arith) width1 refl q
product_inside Last f s h q = inside f s h 2 (omega arith) width1 refl q
product_inside Position f s h q = inside f s h 5 (omega arith) width1 refl q
product_inside Minutes f s h q = inside f s h 6 (omega arith) width2 refl q
product_inside Production f s h q = inside f s h 7 (omega arith) width4 refl q
product_inside Inventory f s h q = inside f s h 9 (omega arith) width4 refl q

pub product_below : (t : ProductTable) (f : Shape) (s : List ℕ) → plan_form f s ≡ Ok f → {j : ℕ} → j < f.weeks * f.products
    → cell (product_width t) s (product_place t) j < 256 ^ product_width t
    → cell (product_width t) s (product_place t) j < most_of t
product_below Assigned f s h q b = bit_below s 0 _ (plan_good f s h).bits.assigned q
product_below First f s h q b = bit_below s 1 _ (plan_good f s h).bits.first q
product_below Last f s h q b = bit_below s 2 _ (plan_good f s h).bits.last q
product_below Position f s h q b = b
product_below Minutes f s h q b = b
product_below Production f s h q b = b
product_below Inventory f s h q b = b

-- a mark of a changeover, by the name of its table
pub changeover_reads : (t : ChangeoverTable) (f : Shape) (s : List ℕ) (w i j : ℕ)
    → changeover_table_of t (plan_of f s).line w i j ≡ cell 1 s (changeover_place t) ((w * f.products + i) * f.products + j)
unfolding plan_of line_plan_of
changeover_reads Within f s w i j = refl
changeover_reads Between f s w i j = refl

pub changeover_inside : (t : ChangeoverTable) (f : Shape) (s : List ℕ) → plan_form f s ≡ Ok f → {j : ℕ} → j < f.weeks * f.products * f.products
    → Inside s (changeover_place t) 1 j
changeover_inside Within f s h q = inside f s h 3 (omega arith) width1 (sym (table_rows 1 _ _ _)) q
changeover_inside Between f s h q = inside f s h 4 (omega arith) width1 (sym (table_rows 1 _ _ _)) q

pub changeover_below : (t : ChangeoverTable) (f : Shape) (s : List ℕ) → plan_form f s ≡ Ok f → {j : ℕ} → j < f.weeks * f.products * f.products
    → cell 1 s (changeover_place t) j < 2
changeover_below Within f s h q = bit_below s 3 _ (plan_good f s h).bits.changeover q
changeover_below Between f s h q = bit_below s 4 _ (plan_good f s h).bits.week_changeover q

-- a section of numbers by customer, product and week, and one of them
pub pairs_held : (f : Shape) (s : List ℕ) → plan_form f s ≡ Ok f → (place : ℕ) → place < 12
    → get_or (plan_lengths f) place 0 ≡ 4 * (f.customers * f.products * f.weeks) → Holds s place 4 (f.customers * f.products * f.weeks)
pairs_held f s h place l e = laid_holds (plan_good f s h).laid place l 4 _ width4 (omega arith)

pub pair_holds : (t : PairTable) (f : Shape) (s : List ℕ) → plan_form f s ≡ Ok f
    → Holds s (pair_place t) 4 (f.customers * f.products * f.weeks)
pair_holds Sales f s h = pairs_held f s h 8 (omega arith) refl
pair_holds Backlog f s h = pairs_held f s h 10 (omega arith) refl

pub pair_reads : (t : PairTable) (f : Shape) (s : List ℕ) (pair week : ℕ)
    → pair_table_of t (plan_of f s) (pair / f.products) (pair % f.products) week ≡ cell 4 s (pair_place t) (pair * f.weeks + week)
unfolding plan_of
pair_reads Sales f s pair week = rw (div-add-mod' pair f.products)
pair_reads Backlog f s pair week = rw (div-add-mod' pair f.products)

-- where an arc's mark stands, by its two products
pub arc_place : (w n arc : ℕ) {q : ℕ} → q ≡ w * (n * n) + arc → q ≡ (w * n + arc / n) * n + arc % n
arc_place w n arc e = omega (arith, e, div-add-mod' arc n)
