-- TWO GOOD PLAN FILES ARE THE SAME BYTES IF AND ONLY IF THEY HAVE THE SAME NUMBERS. Assumes nothing.
use Prim.Native.Nat.{ℕ}
use mathlib.Core.Path.{◌≡◌, refl, sym, ◌∙◌}
use mathlib.Core.Logic.{◌↔◌}
use mathlib.Core.List.{List}
use Rattle.numbers.specs.Number.{Bytes}
use Rattle.sections.specs.declared.Shape.{Shape}
use Rattle.std.specs.Prelude.{Ok}
use Rattle.plan_file.specs.Plan.{Plan, plan_of, SamePlan}
use Rattle.plan_file.specs.Form.{plan_form}
use Rattle.plan_file.specs.File.{plan_bodies, plan_file}
use Rattle.sections.proofs.Bodies.{grid_ext, cube_ext}
use Rattle.plan_file.proofs.PlanIsFile.{plan_is_file}

pub same_file : (f : Shape) (x y : Plan) → SamePlan f x y → plan_file f x ≡ plan_file f y
unfolding plan_file plan_bodies
same_file f x y h =
    rw (
      grid_ext 1 f.weeks f.products _ _ h.line.assigned,
      grid_ext 1 f.weeks f.products _ _ h.line.first,
      grid_ext 1 f.weeks f.products _ _ h.line.last,
      cube_ext 1 f.weeks f.products f.products _ _ h.line.changeover,
      cube_ext 1 f.weeks f.products f.products _ _ h.line.week_changeover,
      grid_ext 1 f.weeks f.products _ _ h.line.position,
      grid_ext 2 f.weeks f.products _ _ h.line.minutes,
      grid_ext 4 f.weeks f.products _ _ h.production,
      cube_ext 4 f.customers f.products f.weeks _ _ h.sales,
      grid_ext 4 f.weeks f.products _ _ h.inventory,
      cube_ext 4 f.customers f.products f.weeks _ _ h.backlog,
      h.profit,
    )

pub same_self : (f : Shape) (x : Plan) → SamePlan f x x
same_self f x =
    record {
      line = record {
        assigned = λ w i p q. refl;
        first = λ w i p q. refl;
        last = λ w i p q. refl;
        changeover = λ w i j p q r. refl;
        week_changeover = λ w i j p q r. refl;
        position = λ w i p q. refl;
        minutes = λ w i p q. refl;
      };
      production = λ w i p q. refl;
      sales = λ c i w p q r. refl;
      inventory = λ w i p q. refl;
      backlog = λ c i w p q r. refl;
      profit = refl;
    }

pub plans_equal : (f : Shape) (s t : List ℕ) → Bytes s → Bytes t → plan_form f s ≡ Ok f → plan_form f t ≡ Ok f
    → (s ≡ t) ↔ SamePlan f (plan_of f s) (plan_of f t)
plans_equal f s t a b g h = (
  λ e. rw e (same_self f (plan_of f t)),
  λ e. plan_is_file f s a g ∙ (same_file f (plan_of f s) (plan_of f t) e ∙ sym (plan_is_file f t b h)),
)
