-- A result whose value or refusal is mapped to itself, as a caller may write it: the search takes these where a call is written so. Assumes nothing.
use mathlib.Core.Path.{◌≡◌, sym, ap, ◌∙◌}
use Rattle.std.specs.Prelude.{Result, Ok, Err}
use Rattle.std.specs.Result.{MatchResult, IsErrAnd}

module _ {T E : Type 0} where
  pub mapped_ok : (r m : Result T E) (x : T) → MatchResult r (λ y. m ≡ Ok y) (λ d. IsErrAnd m (λ e. e ≡ d)) → m ≡ Ok x → r ≡ Ok x
  mapped_ok (Ok y) m x h e = sym h ∙ e
  mapped_ok (Err d) (Ok y) x h e = absurd h
  mapped_ok (Err d) (Err y) x h e = cc

  pub mapped_err : (r m : Result T E) (d : E) → MatchResult r (λ y. m ≡ Ok y) (λ d. IsErrAnd m (λ e. e ≡ d)) → m ≡ Err d → r ≡ Err d
  mapped_err (Ok y) m d h e = cc
  mapped_err (Err n) (Ok y) d h e = absurd h
  mapped_err (Err n) (Err m) d h e = ap Err (sym h) ∙ e
