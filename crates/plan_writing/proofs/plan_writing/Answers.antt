-- `plan_writing::plan_writing` meets its contract: at each place it is known what the plant's rows, the slots' rows and the run have said.
-- Assumes nothing.
use borrow.Author.Rules.{rules}
use mathlib.Core.Path.{◌≡◌, refl, sym, ap, ◌∙◌}
use mathlib.Core.List.{List}
use Prim.Native.Nat.{ℕ}
use Rattle.std.proofs.Common.{Bor}
use Rattle.sections.specs.declared.Shape.{Shape}
use Rattle.std.specs.Prelude.{Ok, Err}
use Rattle.plant_file.specs.Plant.{plant_of}
use Rattle.plan_file.specs.File.{plan_file}
use Rattle.slot_file.specs.Slots.{slots_of}
use Rattle.slot_file.specs.Form.{slot_form}
use Rattle.std.proofs.lemmas.Result.{err_from_is_err_and}
use Rattle.machine.specs.State.{Step, step_of}
use Rattle.model.specs.RunTables.{run_tables}
use Rattle.calls.specs.Answer.{Answer, bytes, plan_answer}
use Rattle.passed_plan.proofs.Mapped.{mapped_ok, mapped_err}
use Rattle.calls.proofs.Output.{refused_as, result_on, output_on, part_whole, part_left, mapped_same}
use Rattle.plan_writing.specs.Ran.{Ran}
use Rattle.plan_writing.proofs.RunWeeks.{profit_is}
use Rattle.plan_writing.proofs.plan_writing.Goals as goal
use Rattle.plan_writing.proofs.plan_writing.Goals.{In_ok-slots, In_ok-state}

-- what holds for one shape holds for the same
good_as : {f g : Shape} (slots : List ℕ) → g ≡ f → slot_form g slots ≡ Ok g → slot_form f slots ≡ Ok f
good_as slots e h = rw e at h

ran_as : {f g : Shape} {plant slots : List ℕ} → g ≡ f → Ran f plant slots → Ran g plant slots
ran_as e h = rw e h

module _ (c : In_ok-slots) where
  abbrev f : Shape
  f = c.in_ok-plant.plant.shape

  abbrev plant : List ℕ
  plant = c.in_ok-plant.plant.bytes.now

  abbrev slots : List ℕ
  slots = c.in_ok-slots.slots.bytes.now

  -- the slots are good for the plant's shape
  same_shape : c.in_ok-slots.slots.shape ≡ f
  same_shape =
      let read : c.read-2.result ≡ Ok c.in_ok-slots.slots = search (rules, mapped_ok) in
      let e = rw read at c.read-2.ensures in
      e.1

  slots_good : slot_form f slots ≡ Ok f
  slots_good = good_as slots same_shape c.in_ok-slots.slots.accepted

  -- the files have the bytes of the call
  same_plant : plant ≡ c.args.plant.now
  same_plant =
      let read : c.read.result ≡ Ok c.in_ok-plant.plant = search (rules, mapped_ok) in
      let e = rw read at c.read.ensures in
      e.0

  same_slots : slots ≡ c.args.slots.now
  same_slots =
      let read : c.read-2.result ≡ Ok c.in_ok-slots.slots = search (rules, mapped_ok) in
      let e = rw read at c.read-2.ensures in
      ap (λ (b : Bor (List ℕ)). b.now) e.0

  same_answer : plan_answer plant slots ≡ plan_answer c.args.plant.now c.args.slots.now
  same_answer = λ u. plan_answer (same_plant u) (same_slots u)

-- what the run has given, where its stop is mapped to itself too
ran_ok : (c : In_ok-state) → step_of (Ok c.in_ok-state.state) ≡ step_of c.run.result
ran_ok c =
    let r : c.run.result ≡ Ok c.in_ok-state.state = search (rules, mapped_ok) in
    ap step_of (sym r)

-- both files are good, and the run never stops
ran : (c : In_ok-state) → Ran c.in_ok-plant.plant.shape c.in_ok-plant.plant.bytes.now c.in_ok-slots.slots.bytes.now
ran c =
    let read : c.read-2.result ≡ Ok c.in_ok-slots.slots = search (rules, mapped_ok) in
    let e = rw read at c.read-2.ensures in
    record {
      plant_good = c.in_ok-plant.plant.accepted;
      slots_good = good_as _ e.1 c.in_ok-slots.slots.accepted;
      continued = sym (ap (λ (r : Step). r.outcome) (ran_ok c ∙ c.run.ensures));
    }

-- ---- the returns: a plant, slots or a run that is refused, and the tables
pub returns-in_err-plant : goal.returns-in_err-plant
unfolding plan_answer
returns-in_err-plant c =
    let read : c.read.result ≡ Err c.in_err-plant.field-0.0 = search (rules, mapped_err) in
    let e = rw read at c.read.ensures in
    let r = refused_as {n = c.in_err-plant.field-0.0} (rw e) (search rules, refl) in
    record { result = r.0; output = r.1 }

pub returns-in_err-slots : goal.returns-in_err-slots
unfolding plan_answer
returns-in_err-slots c =
    let read : c.read.result ≡ Ok c.in_ok-plant.plant = search (rules, mapped_ok) in
    let plant = rw read at c.read.ensures in
    let refused : c.read-2.result ≡ Err c.in_err-slots.field-0.0 = search (rules, mapped_err) in
    let slots = rw refused at c.read-2.ensures in
    let r = refused_as {n = c.in_err-slots.field-0.0} (rw (plant.1, slots)) (search rules, refl) in
    record { result = r.0; output = r.1 }

pub invariant_of-run : goal.invariant_of-run
invariant_of-run c = record { same = same_shape (goal.at.invariant_of-run c).In_ok-slots }

pub returns-in_err-state : goal.returns-in_err-state
unfolding plan_answer
returns-in_err-state c =
    let d = (goal.at.returns-in_err-state c).In_ok-slots in
    let stopped : c.run.result ≡ Err c.in_err-state.field-0.0 = search (rules, mapped_err) in
    let e = sym (ap (λ (r : Step). r.outcome) (ap step_of (sym stopped) ∙ c.run.ensures)) in
    let r =
    refused_as {n = c.in_err-state.field-0.0.refusal} (sym (same_answer d) ∙ rw (c.in_ok-plant.plant.accepted, slots_good d, e)) (search rules, refl) in
    let n = err_from_is_err_and c.from_residual-in_err-state.result c.from_residual-in_err-state.ensures.1 in
    record { result = rw (n.1, n.2) r.0; output = r.1 }

pub invariant_of-write_where_room : goal.invariant_of-write_where_room
invariant_of-write_where_room c =
    let d = (goal.at.invariant_of-write_where_room c).In_ok-slots in
    let state = (goal.at.invariant_of-write_where_room c).In_ok-state in
    let h = ran state in
    let shape = same_shape d in
    let profit = ap (λ (r : Step). r.state.profit.0) (ran_ok state ∙ c.run.ensures) ∙ profit_is _ _ _ h in
    record {
      ran = ran_as shape h;
      earned = profit ∙ ap (λ (g : Shape). (run_tables (plant_of g (plant d)) (slots_of g (slots d))).profit) (sym shape);
    }

pub returns : goal.returns
unfolding plan_answer plan_file
returns c =
    let d = (goal.at.returns c).In_ok-slots in
    let r = c.write_where_room.ensures in
    let h = ran (goal.at.returns c).In_ok-state in
    let tables : Shape → Answer = λ g. bytes (plan_file g (run_tables (plant_of g (plant d)) (slots_of g (slots d)))) in
    let answer : plan_answer (plant d) (slots d) ≡ tables (f d) = rw (h.plant_good, h.slots_good, h.continued) in
    let written = ap tables (same_shape d) ∙ sym answer ∙ same_answer d in
    record {
      result = result_on r.result (sym written) (search (rules, part_whole)) (search (rules, mapped_same));
      output = output_on r.output (sym written) (search (rules, part_whole)) (search (rules, part_left));
    }
