-- What is no number stays none.
use Rattle.std.proofs.Common.{arith, suc, ◌<◌, ◌≡◌, ℕ, List, [], ◌∷◌, length, drop, get_or}
use mathlib.Core.Path.{refl, sym, ap, ◌∙◌}
use lib.Seq.{drop-cons}
use Rattle.std.specs.Prelude.{None, Some}
use Rattle.files.specs.Numerals.{with_digit, and_digits}
use Rattle.files.proofs.numeral_of.Goals as goal

none_stays : (bs : List ℕ) → and_digits None bs ≡ None
none_stays [] = refl
none_stays (b ∷ bs) = refl

-- with no digit at i, there is no number
no_digit : (n i : ℕ) (text : List ℕ) → i < length text → with_digit n (get_or text i 0) ≡ None → and_digits (Some n) (drop i text) ≡ None
no_digit n i text h e =
    let rest = drop (suc i) text in
    rw (drop-cons text i 0 h) (ap (λ r. and_digits r rest) e ∙ none_stays rest)

pub returns-in_err-n : goal.returns-in_err-n
returns-in_err-n c =
    let l = c.loop-digit in
    let none = no_digit l.n l.digit-index c.args.text.now (omega arith) (sym c.with_digit.ensures ∙ c.in_err-n.was) in
    c.from_residual.ensures ∙ sym none ∙ l.invariant
