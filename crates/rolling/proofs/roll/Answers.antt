-- `rolling::roll` meets its contract. Assumes nothing.
use borrow.Author.Rules.{rules}
use mathlib.Core.Path.{◌≡◌, refl}
use Rattle.std.specs.Prelude.{Ok, Err}
use Rattle.passed_plan.proofs.Mapped.{mapped_ok, mapped_err}
use Rattle.calls.specs.Answer.{roll_answer}
use Rattle.calls.proofs.Output.{refused_as}
use Rattle.rolling.proofs.roll.Goals as goal

pub returns-in_err-passed : goal.returns-in_err-passed
unfolding roll_answer
returns-in_err-passed c =
    let read : c.read.result ≡ Err c.in_err-passed.field-0.0 = search (rules, mapped_err) in
    let judged = rw read at c.read.ensures in
    let r = refused_as {n = c.in_err-passed.field-0.0} (rw judged) (search rules, refl) in
    record { result = r.0; output = r.1 }

-- the files have the bytes of the call
pub returns : goal.returns
unfolding roll_answer
returns c =
    let read : c.read.result ≡ Ok c.in_ok-passed.passed = search (rules, mapped_ok) in
    let e = rw read at c.read.ensures in
    let r = c.roll_passed.ensures in
    record { result = rw (e.2, ← e.0, ← e.1) r.result; output = rw (e.2, ← e.0, ← e.1) r.output }
