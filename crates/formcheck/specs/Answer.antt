-- The number that a file of a kind has, for a plant of a shape. Assumes nothing.
use Rattle.std.specs.Prelude.{ℕ, List}
use Rattle.sections.specs.Rows.{number_of}
use Rattle.sections.specs.declared.Shape.{Shape}
use Rattle.plant_file.specs.Form.{plant_form}
use Rattle.plan_file.specs.Form.{plan_form}
use Rattle.slot_file.specs.Form.{slot_form}
use Rattle.formcheck.specs.declared.Kind.{Kind}
use Rattle.formcheck.specs.declared.Kind.TheVariants.{Plant, Plan, Slots}

abbrev pub answer_of : Kind → List ℕ → Shape → ℕ
answer_of Plant s f = number_of (plant_form s)
answer_of Plan s f = number_of (plan_form f s)
answer_of Slots s f = number_of (slot_form f s)
