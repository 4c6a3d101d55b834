-- `slot_return::slot_return` meets its contract. Assumes nothing.
use borrow.Author.Rules.{rules}
use mathlib.Core.Path.{◌≡◌, refl}
use Rattle.std.specs.Prelude.{Ok, Err}
use Rattle.slot_file.specs.File.{slot_file}
use Rattle.passed_plan.proofs.Mapped.{mapped_ok, mapped_err}
use Rattle.passed_plan.proofs.PassedFacts.{files_ordered}
use Rattle.calls.specs.Answer.{slot_answer}
use Rattle.calls.proofs.Output.{refused_as, result_on, output_on, part_whole, part_left, mapped_same}
use Rattle.slot_return.proofs.slot_return.Goals as goal

pub invariant_of-write_where_room-clause-ordered : goal.invariant_of-write_where_room-clause-ordered
invariant_of-write_where_room-clause-ordered c = files_ordered c.in_ok-passed.passed

pub returns-in_err-passed : goal.returns-in_err-passed
unfolding slot_answer
returns-in_err-passed c =
    let read : c.read.result ≡ Err c.in_err-passed.field-0.0 = search (rules, mapped_err) in
    let judged = rw read at c.read.ensures in
    let r = refused_as {n = c.in_err-passed.field-0.0} (rw judged) (search rules, refl) in
    record { result = r.0; output = r.1 }

-- the plan has the bytes of the call, and the shape of the plant
pub returns : goal.returns
unfolding slot_answer slot_file
returns c =
    let x = c.in_ok-passed.passed in
    let read : c.read.result ≡ Ok x = search (rules, mapped_ok) in
    let e = rw read at c.read.ensures in
    let r = c.write_where_room.ensures in
    record {
      result = result_on r.result (rw (e.2, ← e.1, ← x.files.same) refl) (search (rules, part_whole)) (search (rules, mapped_same));
      output = output_on r.output (rw (e.2, ← e.1, ← x.files.same) refl) (search (rules, part_whole)) (search (rules, part_left));
    }
