-- `plan_writing::RanWeek::write_row` meets its contract. Assumes nothing.
use native.Mathlib.Omega.{arith}
use mathlib.Core.Path.{◌≡◌, refl, sym, ap, ◌∙◌}
use mathlib.Core.List.{List}
use Prim.Native.Nat.{ℕ, zero, suc, ◌*◌, ◌≤◌, ◌<◌}
use native.Mathlib.Decide.{ℕ_discrete}
use Rattle.numbers.specs.Number.{encode, store}
use Rattle.numbers.proofs.Number.{encode_ext}
use Rattle.sections.specs.declared.Shape.{Shape}
use Rattle.plant_file.specs.Plant.{Plant}
use Rattle.slot_file.specs.Slots.{Slots, slots_of, order_of_slots}
use Rattle.slot_file.specs.declared.SlotFile.{SlotFile}
use Rattle.costs.specs.Mounted.{Mounted, mounted_below}
use Rattle.model.specs.RunTables.{line_tables, mounted_at, run_tables}
use Rattle.plan_writing.specs.Ran.{Cleared}
use Rattle.plan_writing.specs.Bodies.{section_of, row_in}
use Rattle.plan_writing.specs.Line.{mark_row, amount_row}
use Rattle.plan_writing.specs.Files.{ran_plant, ran_slots, tables_in}
use Rattle.plan_writing.proofs.RunWeeks.{mounted_known_lem}
use Rattle.plan_writing.proofs.Files.{row_products}
use Rattle.plan_writing.proofs.Bodies.{mark_width}
use Rattle.plan_writing.proofs.RanWeek.write_row.Goals as goal
use Rattle.plan_writing.proofs.RanWeek.write_row.Goals.{Start}

-- the rows of the run's tables: E, F, L, Z, ZF and O
mark_row_is : (f : Shape) (P : Plant) (S : Slots) (place : ℕ) → place < 6 → (w j : ℕ)
    → mark_row f.products (mounted_at P S w) (order_of_slots (S.line.week w)) place j ≡ row_in f (run_tables P S) place w j
unfolding mark_row row_in run_tables line_tables
mark_row_is f P S zero l w j = refl
mark_row_is f P S (suc zero) l w j = refl
mark_row_is f P S (suc (suc zero)) l w j = refl
mark_row_is f P S (suc (suc (suc zero))) l w j = refl
mark_row_is f P S (suc (suc (suc (suc zero)))) l w j = refl
mark_row_is f P S (suc (suc (suc (suc (suc zero))))) l w j = refl
mark_row_is f P S (suc (suc (suc (suc (suc (suc place)))))) l w j = absurd (omega arith)

-- T and P
abbrev AmountRow : Shape → Plant → Slots → ℕ → Type 0
AmountRow f P S place =
    ((section_of f place).width ≤ 8) × ((section_of f place).columns ≡ f.products)
    × ((w j : ℕ) → amount_row P.line.rate place (S.line.week w) j ≡ row_in f (run_tables P S) place w j)

amount_row_is : (f : Shape) (P : Plant) (S : Slots) (place : ℕ) → 6 ≤ place → place < 8 → AmountRow f P S place
unfolding section_of row_in run_tables line_tables
amount_row_is f P S place l m = elim (ℕ_discrete place 6) [
  | yes e ↦ rw e (omega arith, refl, λ w j. omega arith)
  | no d ↦ (let e : place ≡ 7 = omega arith in rw e (omega arith, refl, λ w j. refl))
]

cleared_as : {m n : ℕ} {out : List ℕ} → m ≡ n → Cleared n out → Cleared m out
cleared_as e h = rw e h

below_as : (N : ℕ) {a b : Mounted} → a ≡ b → mounted_below N b → mounted_below N a
below_as N e h = rw e h

module _ (s : Start) where
  abbrev f : Shape
  f = s.args.self.files.slots.shape

  abbrev place : ℕ
  place = s.args.place

  abbrev week : ℕ
  week = s.args.self.row.week

  abbrev P : Plant
  P = ran_plant s.args.self.files

  abbrev S : Slots
  S = ran_slots s.args.self.files

  abbrev row : ℕ → ℕ
  row = row_in f (tables_in s.args.self.files) place week

  file_is : s.args.self.row.file ≡ s.args.self.files.slots
  file_is = s.args.self.same

  shape_is : s.args.self.row.file.shape ≡ f
  shape_is = ap (λ (x : SlotFile). x.shape) file_is

  width_is : s.args.width ≡ (section_of f place).width
  width_is = s.requires.2

  mounted_below_lem : mounted_below s.args.self.row.file.shape.products s.args.mounted
  mounted_below_lem =
      let files = s.args.self.files in
      rw shape_is (below_as f.products s.requires.0
      (mounted_known_lem f files.plant.bytes.now files.slots.bytes.now files.ran week (omega (arith, s.args.self.known))))

  marks_cleared : place < 6 → Cleared (section_of s.args.self.row.file.shape place).columns s.args.out.now
  marks_cleared l =
      let e : s.args.width * (section_of f place).columns ≡ (section_of f place).columns =
      ap (λ (x : ℕ). x * (section_of f place).columns) (width_is ∙ mark_width f place l) ∙ omega arith in
      cleared_as (ap (λ (x : Shape). (section_of x place).columns) shape_is) (rw e at s.requires.3)

  marks_are : (l : place < 6)
      → encode 1 (section_of f place).columns (mark_row f.products s.args.mounted (order_of_slots (S.line.week week)) place)
      ≡ encode s.args.width (section_of f place).columns row
  marks_are l =
      encode_ext 1 (section_of f place).columns _ row (λ j m.
      ap (λ (x : Mounted). mark_row f.products x (order_of_slots (S.line.week week)) place j) s.requires.0 ∙ mark_row_is f P S place l week j)
      ∙ ap (λ (x : ℕ). encode x (section_of f place).columns row) (sym (width_is ∙ mark_width f place l))

  amounts_are : (l : 6 ≤ place) → AmountRow f P S place
  amounts_are l = amount_row_is f P S place l s.requires.1

pub write_amounts-requires : goal.write_amounts-requires
write_amounts-requires c =
    let s = (goal.at.write_amounts-requires c).Start in
    let a = amounts_are s (omega arith) in
    (omega (arith, width_is s, a.0), rw (row_products c.args.self) (rw a.1 at c.requires.3))

pub returns-in-6 : goal.returns-in-6
returns-in-6 c =
    let s = (goal.at.returns-in-6 c).Start in
    let a = amounts_are s (omega arith) in
    let file = c.args.self.same in
    let out = c.args.out.now in
    let place = c.args.place in
    c.write_amounts.ensures
    ∙ ((λ u. store out 0 (encode c.args.width (file u).shape.products
    (amount_row (P s).line.rate place ((slots_of (file u).shape (file u).bytes.now).line.week (week s)))))
    ∙ ap (store out 0)
    (encode_ext c.args.width c.args.self.files.slots.shape.products _ (row s) (λ j l. a.2 (week s) j)
    ∙ ap (λ (x : ℕ). encode c.args.width x (row s)) (sym a.1)))

pub write_marks-requires : goal.write_marks-requires
write_marks-requires c =
    let s = (goal.at.write_marks-requires c).Start in
    let below : c.args.place < 6 = omega (arith, c.requires.1) in
    (mounted_below_lem s, below, marks_cleared s below)

pub returns-in_default : goal.returns-in_default
returns-in_default c =
    let s = (goal.at.returns-in_default c).Start in
    let below : c.args.place < 6 = omega (arith, c.requires.1) in
    let file = c.args.self.same in
    let out = c.args.out.now in
    let place = c.args.place in
    let ps = λ (x : SlotFile). order_of_slots ((slots_of x.shape x.bytes.now).line.week (week s)) in
    c.write_marks.ensures
    ∙ ((λ u. store out 0 (encode 1 (section_of (file u).shape place).columns (mark_row (file u).shape.products c.args.mounted (ps (file u)) place)))
    ∙ ap (store out 0) (marks_are s below))
