-- `rolling::Rolled::write_body` meets its contract, place by place. Assumes nothing.
use native.Mathlib.Omega.{arith}
use mathlib.Core.Path.{◌≡◌, refl, sym, ap, ◌∙◌}
use mathlib.Core.List.{List, [], ◌++◌}
use Prim.Native.Nat.{ℕ, ◌<◌}
use lib.ListN.{get_or}
use Rattle.numbers.specs.Number.{digits, encode, store}
use Rattle.sections.specs.declared.Shape.{Shape}
use Rattle.plant_file.specs.Kinds.{plant_kind, has_mounted}
use Rattle.plant_file.specs.Accepted.{plant_in}
use Rattle.plant_file.specs.Form.{plant_lengths}
use Rattle.plant_file.specs.Rates.{listed_rate}
use Rattle.plant_file.specs.File.{plant_bodies}
use Rattle.plant_file.proofs.PlantKinds.{kind_sections, has_section}
use Rattle.plan_file.specs.Accepted.{plan_in}
use Rattle.model.specs.Rolled.{rolled_plant}
use Rattle.rolling.specs.Left.{left_shape, left_plant}
use Rattle.rolling.proofs.RolledBodies.{opening_body, copied, copied_length, twelve, body_size}
use Rattle.rolling.proofs.RolledFileWriter.write_body.Goals as goal
use Rattle.rolling.proofs.RolledFileWriter.write_body.Goals.{Start, In_default}

module _ (s : Start) where
  abbrev body : ℕ → List ℕ
  body k = get_or (plant_bodies (left_plant s.args.self)) k []

  -- what is stored is the body in this place
  stored : (k : ℕ) → s.args.place ≡ k → {b : List ℕ} → b ≡ body k
      → store s.args.out.now 0 b ≡ store s.args.out.now 0 (body s.args.place)
  stored k e h = ap (store s.args.out.now 0) (h ∙ ap body (sym e))

pub returns-in-0 : goal.returns-in-0
unfolding plant_bodies rolled_plant
returns-in-0 c =
    c.write_shape.ensures
    ∙ (ap (λ (g : Shape). store c.args.out.now 0 (digits 1 g.products ++ (digits 1 g.customers ++ digits 1 g.weeks))) c.shape.ensures
    ∙ stored (goal.at.returns-in-0 c).Start 0 c.in-0.is refl)

pub returns-in-1 : goal.returns-in-1
unfolding plant_bodies rolled_plant
returns-in-1 c =
    let r = c.args.self in
    c.write.ensures
    ∙ (ap (λ (g : Shape). store c.args.out.now 0 (encode 4 g.products (listed_rate r.rates.bytes.now))) r.listed
    ∙ stored (goal.at.returns-in-1 c).Start 1 c.in-1.is refl)

pub returns-in-4 : goal.returns-in-4
unfolding plant_bodies rolled_plant
returns-in-4 c = c.write_demand.ensures ∙ stored (goal.at.returns-in-4 c).Start 4 c.in-4.is refl

pub returns-in-9 : goal.returns-in-9
returns-in-9 c =
    let r = c.args.self in
    c.write_opening.ensures
    ∙ stored (goal.at.returns-in-9 c).Start 9 c.in-9.is
    (opening_body (plant_in r.files.plant) (plan_in r.files.plan) r.weeks (listed_rate r.rates.bytes.now) r.some)

-- where the place is that of section 12
pub write_mounted-requires : goal.write_mounted-requires
write_mounted-requires c =
    let g = left_shape c.args.self in
    let two : get_or (plant_lengths g) 11 0 ≡ 2 = rw (has_section g.kind refl) refl in
    let room = rw c.in-11.is at c.requires.1 in
    omega (arith, two, body_size c.args.self 11, room)

pub returns-in-11 : goal.returns-in-11
unfolding plant_bodies has_mounted plant_kind rolled_plant
returns-in-11 c =
    c.write_mounted.ensures
    ∙ ((λ u. store c.args.out.now 0 (digits 1 (c.mounted.ensures u) ++ digits 1 (c.shut_before.ensures u)))
    ∙ stored (goal.at.returns-in-11 c).Start 11 c.in-11.is refl)

-- any other place is copied
module _ (s : In_default) where
  few : s.args.place < 12
  few = omega (arith, s.requires.0, twelve s.args.self)

pub copy_body-requires : goal.copy_body-requires
copy_body-requires c =
    let r = c.args.self in
    let f = r.files.plant.shape in
    let l = few (goal.at.copy_body-requires c).In_default in
    let same =
    copied_length f r.weeks c.args.place l (λ e. absurd (omega (arith, e))) (λ e. absurd (omega (arith, e)))
    (λ e. absurd (omega (arith, e))) (λ e. absurd (omega (arith, e))) (λ e. absurd (omega (arith, e))) in
    (omega (arith, l, (kind_sections f.kind).0), omega (arith, same, body_size r c.args.place, c.requires.1))

pub returns-in_default : goal.returns-in_default
returns-in_default c =
    let r = c.args.self in
    c.copy_body.ensures
    ∙ ap (store c.args.out.now 0)
    (copied (plant_in r.files.plant) (plan_in r.files.plan) r.weeks (listed_rate r.rates.bytes.now) c.args.place
    (few (goal.at.returns-in_default c).In_default)
    (λ e. absurd (omega (arith, e))) (λ e. absurd (omega (arith, e))) (λ e. absurd (omega (arith, e))) (λ e. absurd (omega (arith, e)))
    (λ e. absurd (omega (arith, e))))
