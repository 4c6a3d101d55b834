-- Numbers stored one by one into a table that starts as 0. Assumes nothing.
use Prim.Native.Nat.{ℕ, zero, suc, ◌+◌, ◌*◌, ◌-◌, ◌<◌}
use mathlib.Core.Path.{◌≡◌, refl, sym, ap, ◌∙◌}
use mathlib.Core.Logic.{◌≢◌}
use mathlib.Core.List.{List, ◌∷◌, ◌++◌, append_assoc}
use native.Mathlib.Omega.{arith}
use native.Mathlib.Nat.{add-zero, mul-zero, mul-suc}
use native.Mathlib.Numerals.{add-one}
use lib.ListN.{length, take, drop, replicate, replicate-append-replicate}
use lib.Seq.{take_at, drop_at, drop-append-add}
use Rattle.mathematics.specs.Below.{sum_below, is}
use Rattle.mathematics.proofs.Below.{sum_zero, is_same, is_other}
use Rattle.mathematics.proofs.Join.{join_add, join_first}
use Rattle.numbers.specs.Number.{digits, encode, store}
use Rattle.numbers.proofs.Number.{digits_length, encode_length, encode_ext}

-- ---- zeros
zero_digits : (k : ℕ) → digits k 0 ≡ replicate k 0
zero_digits zero = refl
zero_digits (suc k) = ap (λ (l : List ℕ). 0 ∷ l) (zero_digits k)

pub zero_table : (k n : ℕ) → replicate (k * n) 0 ≡ encode k n (λ j. 0)
zero_table k zero = ap (λ (m : ℕ). replicate {A = ℕ} m 0) (mul-zero k)
zero_table k (suc n) =
    ap (λ (m : ℕ). replicate {A = ℕ} m 0) (mul-suc k n)
    ∙ (sym (replicate-append-replicate {A = ℕ} (k * n) k 0) ∙ (λ u. zero_table k n u ++ sym (zero_digits k) u))

-- ---- one number of a table
encode_split : (k c d : ℕ) (g : ℕ → ℕ) → encode k (c + suc d) g ≡ encode k c g ++ (digits k (g c) ++ encode k d (λ j. g (c + suc j)))
encode_split k c d g =
    join_add c (suc d) (λ j. digits k (g j))
    ∙ ap (λ (l : List ℕ). encode k c g ++ l)
    (join_first d (λ j. digits k (g (c + j))) ∙ ap (λ (x : ℕ). digits k (g x) ++ encode k d (λ j. g (c + suc j))) (add-zero c))

-- b replaced by x of the same length
store_middle : (a b c x : List ℕ) (p : ℕ) → length a ≡ p → length x ≡ length b → store (a ++ (b ++ c)) p x ≡ a ++ (x ++ c)
store_middle a b c x p e d =
    let before : take p (a ++ (b ++ c)) ≡ a = take_at a (b ++ c) p e in
    let after : drop (p + length x) (a ++ (b ++ c)) ≡ c =
    ap (λ (n : ℕ). drop (n + length x) (a ++ (b ++ c))) (sym e) ∙ (drop-append-add a (b ++ c) (length x) ∙ drop_at b c (length x) (sym d)) in
    rw (before, after, append_assoc a x c)

-- a table after its first c + suc d numbers, and what lies behind it
table_parts : (k c d : ℕ) (g : ℕ → ℕ) (end : List ℕ)
    → encode k (c + suc d) g ++ end ≡ encode k c g ++ (digits k (g c) ++ (encode k d (λ j. g (c + suc j)) ++ end))
table_parts k c d g end =
    ap (λ (l : List ℕ). l ++ end) (encode_split k c d g)
    ∙ (append_assoc (encode k c g) (digits k (g c) ++ encode k d (λ j. g (c + suc j))) end
    ∙ ap (λ (l : List ℕ). encode k c g ++ l) (append_assoc (digits k (g c)) (encode k d (λ j. g (c + suc j))) end))

number_stored : (k c d v : ℕ) (g h : ℕ → ℕ) (s : List ℕ) → ((j : ℕ) → j < c → g j ≡ h j) → v ≡ h c → ((j : ℕ) → g (c + suc j) ≡ h (c + suc j))
    → store (store s 0 (encode k (c + suc d) g)) (k * c) (digits k v) ≡ store s 0 (encode k (c + suc d) h)
number_stored k c d v g h s before there after =
    let end = drop (0 + length (encode k (c + suc d) g)) s in
    let same : length (encode k (c + suc d) g) ≡ length (encode k (c + suc d) h) =
    encode_length k (c + suc d) g ∙ sym (encode_length k (c + suc d) h) in
    let first : encode k c g ≡ encode k c h = encode_ext k c g h before in
    let rest : encode k d (λ j. g (c + suc j)) ≡ encode k d (λ j. h (c + suc j)) = encode_ext k d _ _ (λ j l. after j) in
    ap (λ (l : List ℕ). store l (k * c) (digits k v)) (table_parts k c d g end)
    ∙ (store_middle (encode k c g) (digits k (g c)) (encode k d (λ j. g (c + suc j)) ++ end) (digits k v) (k * c) (encode_length k c g)
    (digits_length k v ∙ sym (digits_length k (g c)))
    ∙ ((λ u. first u ++ (digits k (there u) ++ (rest u ++ drop (0 + same u) s)))
    ∙ sym (table_parts k c d h (drop (0 + length (encode k (c + suc d) h)) s))))

-- ---- slots that store numbers: slot u stores value u in cell u
module _ (value cell : ℕ → ℕ) where
  -- number j after the slots below k
  abbrev pub stored : (k j : ℕ) → ℕ
  stored k j = sum_below k (λ u. value u * is (cell u) j)

  -- the next slot, in a cell of its own
  pub slot_stored : (k m n v p : ℕ) (s out : List ℕ) → out ≡ store s 0 (encode k n (stored m)) → p ≡ k * cell m → v ≡ value m → cell m < n
      → ((u : ℕ) → u < m → cell u ≢ cell m) → store out p (digits k v) ≡ store s 0 (encode k n (stored (m + 1)))
  slot_stored k m n v p s out e q w l apart =
      let c = cell m in
      let d = n - suc c in
      let size : n ≡ c + suc d = omega arith in
      let none : stored m c ≡ 0 = sum_zero m _ (λ u h. ap (λ (x : ℕ). value u * x) (is_other (cell u) c (apart u h)) ∙ omega arith) in
      let more : (j : ℕ) → j ≢ c → stored m j ≡ stored (suc m) j =
      λ j h. let z : value m * is c j ≡ 0 = ap (λ (x : ℕ). value m * x) (is_other c j (λ r. h (sym r))) ∙ omega arith in omega (arith, z) in
      let one : value m * is c c ≡ value m = ap (λ (x : ℕ). value m * x) (is_same c c refl) ∙ omega arith in
      rw (add-one, q, e, size)
      (number_stored k c d v (stored m) (stored (suc m)) s (λ j h. more j (λ r. absurd (omega arith))) (omega (arith, one, none))
      (λ j. more (c + suc j) (λ r. absurd (omega arith))))
