-- What is known of the digit and of the sum decides the number.
use Rattle.std.proofs.Common.{arith, ◌≡◌, ◌<◌, ◌+◌, ◌*◌, ◌-◌, ◌^◌, ℕ, ◌∙◌, sym, refl}
use borrow.Author.Tests.{lt-ltb, le-ltb}
use Rattle.std.specs.Prelude.{Option, None, Some, cond, ltb}
use Rattle.std.specs.Option.{SomeIff}
use Rattle.files.specs.Numerals.{with_digit}
use Rattle.files.proofs.with_digit.Goals as goal

-- a sum that is checked, as the definition tests it
some_if : (r : Option ℕ) (n most : ℕ) → SomeIff r (n < most) n → r ≡ cond (ltb n most) (Some n) None
some_if None n most h = rw (le-ltb n most (omega (arith, h))) refl
some_if (Some m) n most h = rw (lt-ltb n most h.0, h.1) refl

pub returns-then-not-is_ascii_digit : goal.returns-then-not-is_ascii_digit
unfolding with_digit
returns-then-not-is_ascii_digit c = rw (sym c.is_ascii_digit.ensures.value ∙ c.if-not-is_ascii_digit.true) refl

pub returns-in_err-checked_mul : goal.returns-in_err-checked_mul
unfolding with_digit
returns-in_err-checked_mul c =
    let a = c.args in
    let most = le-ltb (a.n * 10 + (a.digit - 48)) (2 ^ 64) (omega (arith, c.in_err-checked_mul.ensures)) in
    rw (sym c.is_ascii_digit.ensures.value ∙ c.if-not-is_ascii_digit.false, most) c.from_residual.ensures

pub returns : goal.returns
unfolding with_digit
returns c =
    let a = c.args in
    let sum : a.n * 10 + (a.digit - 48) ≡ c.in_ok-checked_mul.field-0 + c.from.result = omega (arith, c.in_ok-checked_mul.ensures) in
    rw (sym c.is_ascii_digit.ensures.value ∙ c.if-not-is_ascii_digit.false, sum) (some_if _ _ _ c.checked_add.ensures)
