-- Numbers written and read back, at every width. Assumes nothing.
use Prim.Native.Nat.{ℕ, zero, suc, ◌+◌, ◌*◌, ◌/◌, ◌%◌, ◌^◌, ◌≤◌, ◌<◌}
use mathlib.Core.Path.{◌≡◌, refl, sym, ap, ◌∙◌}
use mathlib.Core.List.{List, [], ◌∷◌, append-nil}
use native.Mathlib.Omega.{arith}
use native.Mathlib.Nat.{add-zero, zero-add, suc-add, pow-zero, pow-suc, mul-suc, mul_comm, mul-le-mul_left}
use native.Mathlib.Numerals.{add-one}
use lib.ListN.{length, get_or, take, drop}
use lib.Seq.{drop-cons, drop-drop}
use Rattle.mathematics.specs.Below.{sum_below}
use Rattle.mathematics.proofs.Below.{sum_ext, sum_const}
use Rattle.mathematics.proofs.Join.{join_ext, join_length, join_cuts, join_part}
use Rattle.numbers.specs.Number.{Bytes, number_at, digits, encode, part, store}
use Rattle.numbers.proofs.Store.{part_part, part_get_d, store_join}

-- ---- one number
pub digits_length : (k v : ℕ) → length (digits k v) ≡ k
digits_length zero v = refl
digits_length (suc k) v = ap suc (digits_length k (v / 256))

pub number_below : (k : ℕ) (s : List ℕ) (at : ℕ) → Bytes s → number_at k s at < 256 ^ k
number_below zero s at b = omega arith
number_below (suc k) s at b = rw pow-suc (omega (arith, b at, number_below k s (at + 1) b))

-- a number's low bytes and its high bytes
pub number_add : (j k : ℕ) (s : List ℕ) (at : ℕ) → number_at (j + k) s at ≡ number_at j s at + 256 ^ j * number_at k s (at + j)
number_add zero k s at = rw (zero-add k, add-zero, pow-zero) (omega arith)
number_add (suc j) k s at =
    let e : at + 1 + j ≡ at + suc j = omega arith in
    let h = number_add j k s (at + 1) in
    rw (suc-add, pow-suc, ← e, h) (omega arith)

-- the bytes of a number that was read are the bytes that it was read from
pub digits_number : (k : ℕ) (s : List ℕ) (at : ℕ) → Bytes s → at + k ≤ length s → digits k (number_at k s at) ≡ part s at k
digits_number zero s at b h = refl
digits_number (suc k) s at b h =
    let r = number_at k s (at + 1) in
    let low : (get_or s at 0 + 256 * r) % 256 ≡ get_or s at 0 = omega (arith, b at) in
    let high : (get_or s at 0 + 256 * r) / 256 ≡ r = omega (arith, b at) in
    let t : at < length s = omega arith in
    rw (low, high, drop-cons s at 0 t, digits_number k s (at + 1) b (omega arith), add-one)

-- the rest of a part past its first element
part_rest : (k : ℕ) (l : List ℕ) → drop 1 (take (suc k) l) ≡ take k (drop 1 l)
part_rest zero [] = refl
part_rest (suc k) [] = refl
part_rest k (x ∷ l) = refl

-- the number read is the number whose bytes stand there
pub number_digits : (k : ℕ) (s : List ℕ) (at v : ℕ) → part s at k ≡ digits k v → v < 256 ^ k → number_at k s at ≡ v
number_digits zero s at v e h = omega arith
number_digits (suc k) s at v e h =
    let low : get_or s at 0 ≡ v % 256 =
    rw add-zero at (sym (part_get_d s at (suc k) 0 (omega arith)) ∙ ap (λ (l : List ℕ). get_or l 0 0) e) in
    let rest : part s (at + 1) k ≡ digits k (v / 256) =
    sym (ap (take k) (drop-drop 1 at s)) ∙ (sym (part_rest k (drop at s)) ∙ ap (drop 1) e) in
    let p : v < 256 ^ k * 256 = rw pow-suc at h in
    let high : number_at k s (at + 1) ≡ v / 256 = number_digits k s (at + 1) (v / 256) rest (omega arith) in
    omega arith

-- ---- numbers end to end
pub encode_ext : (k m : ℕ) (f g : ℕ → ℕ) → ((i : ℕ) → i < m → f i ≡ g i) → encode k m f ≡ encode k m g
encode_ext k m f g h = join_ext m _ _ (λ i l. ap (digits k) (h i l))

-- the place of number i
pub place : (k m : ℕ) (f : ℕ → ℕ) → sum_below m (λ i. length (digits k (f i))) ≡ k * m
place k m f = sum_ext m _ (λ i. k) (λ i l. digits_length k (f i)) ∙ (sum_const m k ∙ mul_comm m k)

pub encode_length : (k m : ℕ) (f : ℕ → ℕ) → length (encode k m f) ≡ k * m
encode_length k m f = join_length m _ ∙ place k m f

-- number i of m is within their stretch
pub room : (k : ℕ) {i m : ℕ} → i < m → k * i + k ≤ k * m
room k {i} h = rw mul-suc at (mul-le-mul_left k h)

pub step : (k i : ℕ) → k * (i + 1) ≡ k * i + k
step k i = rw (add-one, mul-suc)

-- a stretch of numbers that was read is the encoding of those numbers
pub encode_numbers : (k m : ℕ) (s : List ℕ) (at : ℕ) → Bytes s → at + k * m ≤ length s
    → encode k m (λ i. number_at k s (at + k * i)) ≡ part s at (k * m)
encode_numbers k m s at b h =
    join_ext m _ _
    (λ i l. digits_number k s (at + k * i) b (omega (arith, room k l))
    ∙ ap (λ (x : ℕ). part s (at + x) k) (mul_comm k i ∙ sym (sum_const i k)))
    ∙ (join_cuts m (λ i. k) s at ∙ ap (part s at) (sum_const m k ∙ mul_comm m k))

-- each number of an encoding is read back
pub number_encode : (k m : ℕ) (s : List ℕ) (at : ℕ) (f : ℕ → ℕ) → part s at (k * m) ≡ encode k m f
    → (i : ℕ) → i < m → f i < 256 ^ k → number_at k s (at + k * i) ≡ f i
number_encode k m s at f e i l h =
    let there = join_part m (λ j. digits k (f j)) [] i l in
    number_digits k s (at + k * i) (f i)
    (sym (part_part s at (k * i) k (k * m) (room k l))
    ∙ (ap (λ (x : List ℕ). part x (k * i) k) (e ∙ sym (append-nil (encode k m f)))
    ∙ rw (digits_length, place k i f) at there)) h

-- one number more stored at the end of those stored
pub store_more : (k i : ℕ) (f : ℕ → ℕ) (s : List ℕ) → store (store s 0 (encode k i f)) (k * i) (digits k (f i)) ≡ store s 0 (encode k (i + 1) f)
store_more k i f s = store_join i (λ j. digits k (f j)) s (k * i) (encode_length k i f)
