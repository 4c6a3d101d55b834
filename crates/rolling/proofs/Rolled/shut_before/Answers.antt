-- `rolling::Rolled::shut_before` meets its contract. Assumes nothing.
use mathlib.Core.Path.{◌≡◌, refl, ap, ◌∙◌}
use mathlib.Core.Bool.{Bool, true, false, cond}
use native.Mathlib.Omega.{arith}
use Prim.Native.Nat.{ℕ, ◌-◌}
use mir.Val.{bool_byte}
use Rattle.mathematics.specs.Week.{shut}
use Rattle.sections.specs.declared.Shape.{Shape}
use Rattle.plan_file.specs.Accepted.{plan_in}
use Rattle.rules.specs.Rules.{week_of}
use Rattle.model.specs.Rolled.{rolled_plant}
use Rattle.rolling.proofs.Rolled.shut_before.Goals as goal

byte_is : (b : Bool) → bool_byte b ≡ cond b 1 0
byte_is true = refl
byte_is false = refl

pub returns : goal.returns
unfolding rolled_plant
returns c =
    let r = c.args.self in
    let x = plan_in r.files.plan in
    let week : c.is_shut.result ≡ shut r.files.plan.shape.products (week_of x.line (r.weeks - 1)) =
    c.is_shut.ensures ∙ ap (λ (w : ℕ). shut r.files.plan.shape.products (week_of x.line w)) (omega arith) in
    let shut_is = week ∙ ap (λ (f : Shape). shut f.products (week_of x.line (r.weeks - 1))) r.files.same in
    c.from.ensures ∙ (ap bool_byte shut_is ∙ byte_is (shut r.files.plant.shape.products (week_of x.line (r.weeks - 1))))
