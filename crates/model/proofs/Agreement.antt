-- The machine and the rules agree: a plan passes the rules exactly where some slots run without a stop and give the plan's tables, with
-- the run's profit; those slots are one, and are those that the plan shows. Assumes nothing.
use mathlib.Core.Path.{◌≡◌, sym, ap, ◌∙◌}
use mathlib.Core.Logic.{◌↔◌}
use native.Mathlib.Omega.{arith}
use lib.IntN.{ℤ}
use Rattle.mathematics.proofs.OrderTheorem.{uniqueness}
use Rattle.plant_file.specs.Plant.{Plant, shape_of_plant}
use Rattle.plant_file.specs.Ranges.{PlantRanges}
use Rattle.plan_file.specs.Plan.{Plan, LinePlanFits}
use Rattle.slot_file.specs.Slots.{order_of_slots, Slots, SameSlots}
use Rattle.slot_file.proofs.Orders.{order_below}
use Rattle.units.specs.declared.Profit.{Profit}
use Rattle.machine.specs.declared.State.{State}
use Rattle.machine.specs.Run.{after}
use Rattle.std.specs.Prelude.{Ok}
use Rattle.rules.specs.Verdict.{verdict_of}
use Rattle.model.specs.RunTables.{line_tables, run_tables}
use Rattle.model.specs.Model.{Binary}
use Rattle.model.specs.Match.{Gives, slots_shown}
use Rattle.model.proofs.RuleFacts.{verdict_rules, rules_verdict}
use Rattle.model.proofs.RunRules.{run_once}
use Rattle.model.proofs.PlanRuns.{shown_gives}
use Rattle.model.proofs.GivenPlans.{continued, is_order_lem, plan_agree, given_profit, given_rules, given_binary, same_slots}

-- a plan that passes: the slots that it shows run without a stop and give it
pub passing_runs : {P : Plant} → PlantRanges P → {x : Plan} {q : Profit} → Binary P x → verdict_of P x ≡ Ok q
    → Gives P (slots_shown P.products x) (after P (slots_shown P.products x) P.weeks) x × (x.profit ≡ q.0)
passing_runs {P} R {x} {q} b e =
    let r = verdict_rules P x q e in
    (shown_gives P x b r.0 R, r.1)

-- a plan that slots give, by a run without a stop, passes with the profit of the run
module _ {P : Plant} (R : PlantRanges P) {S : Slots} {s : State} {x : Plan} (g : Gives P S s x) where
  pub running_passes : verdict_of P x ≡ Ok (record { 0 = s.profit.0 })
  running_passes = rules_verdict P x (given_rules R g) ∙ ap (λ (z : ℤ). Ok (record { 0 = z })) (given_profit R g)

  pub running_binary : Binary P x
  running_binary = given_binary R g

-- only one list of slots gives a plan
pub one_slots : {P : Plant} → PlantRanges P → {S T : Slots} {s t : State} {x : Plan} → Gives P S s x → Gives P T t x
    → SameSlots (shape_of_plant P) S T
unfolding run_tables line_tables
one_slots {P} R {S} {T} g h =
    record {
      week = λ w l. same_slots P.products (S.line.week w) (T.line.week w)
          (uniqueness P.products (order_of_slots (S.line.week w)) (order_of_slots (T.line.week w)) (is_order_lem R g w l) (is_order_lem R h w l)
          (λ i k. sym ((plan_agree R g w l).position i k) ∙ (plan_agree R h w l).position i k))
          (order_below P.products (S.line.week w) (g.formed w l))
          (run_once P R S w (g.formed w l) ((continued R g).0 w l))
          (λ i k. sym (g.same.line.minutes w i l k) ∙ h.same.line.minutes w i l k);
      sales = λ c i w j k l. sym (g.same.sales c i w j k l) ∙ h.same.sales c i w j k l;
    }

-- and they are those that the plan shows
pub shown_slots_lem : {P : Plant} → PlantRanges P → {S : Slots} {s : State} {x : Plan} → Gives P S s x → SameSlots (shape_of_plant P) (slots_shown P.products x) S
shown_slots_lem R g = one_slots R (passing_runs R (running_binary R g) (running_passes R g)).0 g

-- a plan passes exactly where some slots give it
pub agreement : {P : Plant} → PlantRanges P → {x : Plan} {q : Profit} → Binary P x
    → (verdict_of P x ≡ Ok q) ↔ ((S : Slots) × (s : State) × Gives P S s x × (x.profit ≡ q.0))
agreement {P} R {x} {q} b = (
  λ e. (let r = passing_runs R b e in (slots_shown P.products x, after P (slots_shown P.products x) P.weeks, r.0, r.1)),
  λ r. rules_verdict P x (given_rules R r.2) ∙ ap (λ (z : ℤ). Ok (record { 0 = z })) r.3,
)

-- a plan whose numbers fit their sections has tables of 0 and 1
pub fits_binary : {P : Plant} {x : Plan} → LinePlanFits (shape_of_plant P) x.line → Binary P x
fits_binary f =
    record {
      assigned = λ w i l k. omega (arith, f.assigned w i l k);
      first = λ w i l k. omega (arith, f.first w i l k);
      last = λ w i l k. omega (arith, f.last w i l k);
      changeover = λ w i j l k m. omega (arith, f.changeover w i j l k m);
      week_changeover = λ w i j l k m. omega (arith, f.week_changeover w i j l k m);
    }
