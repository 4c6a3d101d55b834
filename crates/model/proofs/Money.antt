-- Gains and losses in any order come to one difference. Assumes nothing.
use Prim.Native.Nat.{ℕ, ◌+◌}
use mathlib.Core.Path.{◌≡◌, sym, ap, ◌∙◌}
use mathlib.Core.Bool.{true}
use native.Mathlib.Omega.{arith}
use lib.IntN.{ℤ, pos, negsuc, neg_ℤ, ◌+ℤ◌, ◌-ℤ◌, +ℤ_assoc, +ℤ_comm, pos-+ℤ-pos}
use borrow.Author.Tests.{eqb-true}
use Rattle.units.proofs.Signed.{lose_lose}
use Rattle.rules.specs.Rules.{same_integer}
use Rattle.rules.proofs.Profits.{same_yes}

lose_gain : (z : ℤ) (a b : ℕ) → z -ℤ pos a +ℤ pos b ≡ z +ℤ pos b -ℤ pos a
lose_gain z a b =
    +ℤ_assoc z (neg_ℤ (pos a)) (pos b)
    ∙ (ap (λ (x : ℤ). z +ℤ x) (+ℤ_comm (neg_ℤ (pos a)) (pos b)) ∙ sym (+ℤ_assoc z (pos b) (neg_ℤ (pos a))))

pub lose_same : (z : ℤ) (a b : ℕ) → a ≡ b → z -ℤ pos a ≡ z -ℤ pos b
lose_same z a b e = ap (λ (x : ℕ). z -ℤ pos x) e

pub lose_both : (z : ℤ) (a b n : ℕ) → a + b ≡ n → z -ℤ pos a -ℤ pos b ≡ z -ℤ pos n
lose_both z a b n e = lose_lose z a b ∙ lose_same z (a + b) n e

-- four sums, and a week more: changeovers first, then sales, backlog and inventory
pub week_more : (s c b i s' c' b' i' : ℕ)
    → pos s -ℤ pos c -ℤ pos b -ℤ pos i -ℤ pos c' +ℤ pos s' -ℤ pos b' -ℤ pos i'
    ≡ pos (s + s') -ℤ pos (c + c') -ℤ pos (b + b') -ℤ pos (i + i')
week_more s c b i s' c' b' i' =
    simp (lose_gain, lose_lose, pos-+ℤ-pos) (lose_same (pos (s + s')) (c + b + i + c' + b' + i') (c + c' + (b + b') + (i + i')) (omega arith))

-- where two profits come to a third, they do so after a week more of the second and of the third, with the same amounts
pub both_more : (y z : ℤ) {t : ℤ} {c c' s s' b b' i i' : ℕ} → y +ℤ z ≡ t → c ≡ c' → s ≡ s' → b ≡ b' → i ≡ i'
    → y +ℤ (z -ℤ pos c +ℤ pos s -ℤ pos b -ℤ pos i) ≡ t -ℤ pos c' +ℤ pos s' -ℤ pos b' -ℤ pos i'
both_more y z all over sales late held = rw (← all, over, sales, late, held) (simp +ℤ_assoc)

-- ---- the test of equality
pub same_equal : (a b : ℤ) → same_integer a b ≡ true → a ≡ b
same_equal (pos a) (pos b) h = ap pos (eqb-true a b h)
same_equal (pos a) (negsuc b) h = absurd (let z : ◌≡◌ {A = ℕ} 0 1 = cc in omega arith)
same_equal (negsuc a) (pos b) h = absurd (let z : ◌≡◌ {A = ℕ} 0 1 = cc in omega arith)
same_equal (negsuc a) (negsuc b) h = ap negsuc (eqb-true a b h)

pub equal_same : (a b : ℤ) → a ≡ b → same_integer a b ≡ true
equal_same a b e = ap (λ (z : ℤ). same_integer z b) e ∙ same_yes b
