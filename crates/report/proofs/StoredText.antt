-- Texts stored one after the other. Assumes nothing.
use Prim.Native.Nat.{ℕ, suc, ◌+◌, ◌/◌, ◌%◌, ◌<◌, ◌≤◌}
use mathlib.Core.Path.{◌≡◌, refl, sym, ap, ◌∙◌}
use mathlib.Core.List.{List, [], ◌∷◌, ◌++◌, append_assoc, append-nil}
use native.Mathlib.Omega.{arith}
use native.Mathlib.Numerals.{add-one}
use native.Mathlib.Nat.{add-zero}
use lib.ListN.{length, set, drop, take, length-set, length-append, take-append-drop}
use lib.Seq.{set_split, take-set-le, drop-set-lt, drop-cons, get_or-set_same, append_snoc}
use Rattle.numbers.specs.Number.{store}
use Rattle.numbers.proofs.Store.{store_store}
use Rattle.report.specs.Text.{decimal, line}
use Rattle.report.specs.Stored.{Stored}
use Rattle.report.proofs.Decimal.{digits, digits_length}

pub stored_byte : (s : List ℕ) (at x : ℕ) → at < length s → Stored s at (x ∷ []) (at + 1) (set s at x)
stored_byte s at x h =
    record { end = refl; output = rw (add-one at, append_snoc (take at s) x (drop (suc at) s)) (set_split s at x h) }

pub stored_none : (s : List ℕ) (at : ℕ) → Stored s at [] at s
stored_none s at =
    record { end = omega arith; output = sym (rw (append-nil (take at s), add-zero at) (take-append-drop at s)) }

-- a text behind another
pub stored_both : {s t u : List ℕ} {at p q : ℕ} {a b : List ℕ} → at ≤ length s → Stored s at a p t → Stored t p b q u → Stored s at (a ++ b) q u
stored_both {s} {t} {u} {at} {p} {q} {a} {b} h x y =
    record {
      end = omega (arith, x.end, y.end, length-append a b);
      output = y.output ∙ rw (x.output, x.end) (store_store s at a b h);
    }

-- the last byte of a text first
pub stored_back : (s : List ℕ) (at x : ℕ) (a : List ℕ) → at + length a < length s
    → store (set s (at + length a) x) at a ≡ store s at (a ++ (x ∷ []))
stored_back s at x a h =
    let j = at + length a in
    let cut : drop j (set s j x) ≡ x ∷ drop (suc j) s =
    drop-cons (set s j x) j 0 (rw length-set h) ∙ rw (get_or-set_same s j x 0 h, drop-set-lt (suc j) s j x (omega arith)) in
    let e : at + length (a ++ (x ∷ [])) ≡ suc j = omega (arith, length-append a (x ∷ [])) in
    rw (take-set-le at s j x (omega arith), cut, e, ← append_assoc (take at s) a (x ∷ []), append_snoc (take at s ++ a) x (drop (suc j) s))

-- ---- a text stored piece by piece
-- what is left, stored in t from p on, gives the whole text in s from `at` on
pub record Rest (s : List ℕ) (at : ℕ) (text : List ℕ) (p : ℕ) (t left : List ℕ) : Type 0 where
  pub size : p + length left ≡ at + length text
  pub same : store t p left ≡ store s at text

pub rest_start : (s : List ℕ) (at : ℕ) {text left : List ℕ} → text ≡ left → Rest s at text at s left
rest_start s at e = rw e (record { size = refl; same = refl })

module _ {s t : List ℕ} {at p : ℕ} {text left : List ℕ} where
  pub rest_step : {u : List ℕ} (a b : List ℕ) (q : ℕ) → p ≤ length t → left ≡ a ++ b → Rest s at text p t left
      → Stored t p a q u → Rest s at text q u b
  rest_step a b q h e r x =
      let whole : store t p (a ++ b) ≡ store s at text = rw e at r.same in
      record {
        size = omega (arith, r.size, x.end, ap length e, length-append a b);
        same = rw (x.output, x.end) (store_store t p a b h ∙ whole);
      }

  pub rest_end : left ≡ [] → Rest s at text p t left → Stored s at text p t
  rest_end e r =
      record { end = omega (arith, r.size, ap length e); output = (stored_none t p).output ∙ (rw e at r.same) }

-- ---- numbers
-- the last digit of m first, then the k before it
pub digit_back : (s : List ℕ) (at n j k m : ℕ) → j ≡ at + k → m ≡ suc k → j < length s
    → store (set s j (48 + n % 10)) at (digits k (n / 10)) ≡ store s at (digits m n)
digit_back s at n j k m e more h =
    let place : j ≡ at + length (digits k (n / 10)) = omega (arith, digits_length k (n / 10)) in
    rw (place, more) (stored_back s at (48 + n % 10) (digits k (n / 10)) (omega arith))

-- ---- lines
-- a line of five, field by field
pub line_fields : (a b c d e : ℕ) →
    decimal a ++ (32 ∷ []) ++ (decimal b ++ (32 ∷ [])) ++ (decimal c ++ (32 ∷ [])) ++ (decimal d ++ (32 ∷ [])) ++ (decimal e ++ (10 ∷ []))
    ≡ line a (b ∷ c ∷ d ∷ e ∷ [])
line_fields a b c d e = simp append_assoc

pub line_length : (a b c d e : ℕ) → length (line a (b ∷ c ∷ d ∷ e ∷ []))
    ≡ length (decimal a) + length (decimal b) + length (decimal c) + length (decimal d) + length (decimal e) + 5
line_length a b c d e = simp length-append (omega arith)
