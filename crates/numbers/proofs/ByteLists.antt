-- Lists of bytes: what numbers, joins and stores are made of. Assumes nothing.
use Prim.Native.Nat.{ℕ, zero, suc, ◌/◌}
use mathlib.Core.List.{List, [], ◌∷◌, ◌++◌}
use native.Mathlib.Omega.{arith}
use Rattle.mathematics.specs.Below.{join_below}
use Rattle.numbers.specs.Number.{Bytes, digits, encode}

pub bytes_none : Bytes []
bytes_none i = omega arith

pub bytes_append : (a b : List ℕ) → Bytes a → Bytes b → Bytes (a ++ b)
bytes_append [] b p q i = q i
bytes_append (x ∷ a) b p q zero = p 0
bytes_append (x ∷ a) b p q (suc i) = bytes_append a b (λ j. p (suc j)) q i

pub bytes_join : (n : ℕ) (f : ℕ → List ℕ) → ((i : ℕ) → Bytes (f i)) → Bytes (join_below n f)
bytes_join zero f h = bytes_none
bytes_join (suc n) f h = bytes_append (join_below n f) (f n) (bytes_join n f h) (h n)

pub bytes_digits : (k v : ℕ) → Bytes (digits k v)
bytes_digits zero v i = omega arith
bytes_digits (suc k) v zero = omega arith
bytes_digits (suc k) v (suc i) = bytes_digits k (v / 256) i

pub bytes_encode : (k m : ℕ) (f : ℕ → ℕ) → Bytes (encode k m f)
bytes_encode k m f = bytes_join m (λ i. digits k (f i)) (λ i. bytes_digits k (f i))
