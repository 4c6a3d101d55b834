-- The tables of one week, and the rules 31, 32 and 34 on them as tests. Assumes nothing.
-- The sentences quoted are those of the paper's list of rules; an equation's number is that of source 004, section 3.
use Rattle.std.specs.Prelude.{ℕ, ◌+◌, ◌<◌, ◌≡◌, Bool, true, ◌&&◌, ◌||◌, cond, eqb, leb}
use Rattle.mathematics.specs.Below.{sum_below, all_below, implies, within}

-- the tables of one week on one line. In source 004: E, F, L, O of a product; Z of a product and the one after it
pub record WeekTables : Type 0 where
  -- E
  pub assigned : ℕ → ℕ
  -- F
  pub first : ℕ → ℕ
  -- L
  pub last : ℕ → ℕ
  -- O
  pub position : ℕ → ℕ
  -- Z
  pub changeover : ℕ → ℕ → ℕ

-- n, "the week's count of E = 1": the sum of E, which holds 0 and 1
abbrev pub count : ℕ → WeekTables → ℕ
count N x = sum_below N x.assigned

-- E, F, L and Z hold 0 and 1, as the file layer ensures. In source 004 they are its binary variables
unfoldable pub binary : ℕ → WeekTables → Bool
binary N x =
    all_below N (λ i. leb (x.assigned i) 1 && leb (x.first i) 1 && leb (x.last i) 1 && all_below N (λ j. leb (x.changeover i j) 1))

-- one mark, on a product with E = 1
unfoldable pub marked_once : ℕ → (mark assigned : ℕ → ℕ) → Bool
marked_once N mark assigned = eqb (sum_below N mark) 1 && all_below N (λ i. implies (eqb (mark i) 1) (eqb (assigned i) 1))

-- "one F and one L, each on a product with E = 1". Equations (2) and (4) for F, (3) and (5) for L
unfoldable pub one_each : ℕ → WeekTables → Bool
one_each N x = marked_once N x.first x.assigned && marked_once N x.last x.assigned

-- request 2026-01, a shut week: "none of E, F and L"
unfoldable pub shut : ℕ → WeekTables → Bool
shut N x = eqb (count N x) 0 && eqb (sum_below N x.first) 0 && eqb (sum_below N x.last) 0

-- 31, by request 2026-01: "one F and one L, each on a product with E = 1, or none of E, F and L"
unfoldable pub rule31 : ℕ → WeekTables → Bool
rule31 N x = one_each N x || shut N x

-- its two sides in numbers: one mark, "on a product with E = 1"; "none of E, F and L"
abbrev pub OneMark : ℕ → (mark assigned : ℕ → ℕ) → Type 0
OneMark N mark assigned = (sum_below N mark ≡ 1) × ((i : ℕ) → i < N → mark i ≡ 1 → assigned i ≡ 1)

abbrev pub NoMark : ℕ → WeekTables → Type 0
NoMark N x = (i : ℕ) → i < N → (x.assigned i ≡ 0) × (x.first i ≡ 0) × (x.last i ≡ 0)

-- 32: "Z's diagonal is 0; into j the sum of Z is E − F of j; out of i it is E − L of i". Equations (6) and (7), whose sums pass
-- over the diagonal. F and L are added on the other side, since a difference of naturals is cut off at 0
unfoldable pub rule32 : ℕ → WeekTables → Bool
rule32 N x =
    all_below N (λ i. eqb (x.changeover i i) 0)
    && all_below N (λ j. eqb (sum_below N (λ i. x.changeover i j) + x.first j) (x.assigned j))
    && all_below N (λ i. eqb (sum_below N (λ j. x.changeover i j) + x.last i) (x.assigned i))

-- 34: "O is 0 where E is 0, else 1 to n, n the week's count of E = 1; where Z from i to j is 1, O of j is at least O of i plus 1".
-- Equations (11), (12) and (10); in (12) the least O is F, in the rule it is 1 where E is not 0
unfoldable pub rule34 : ℕ → WeekTables → Bool
rule34 N x =
    all_below N (λ i. cond (eqb (x.assigned i) 0) (eqb (x.position i) 0) (within 1 (count N x) (x.position i)))
    && all_below N (λ i. all_below N (λ j. implies (eqb (x.changeover i j) 1) (leb (x.position i + 1) (x.position j))))

-- request 2026-01: "A week may now have no product: its E, F, L, Z .. O .. are 0"
pub record NoProduct (N : ℕ) (x : WeekTables) : Type 0 where
  pub assigned : (i : ℕ) → i < N → x.assigned i ≡ 0
  pub first : (i : ℕ) → i < N → x.first i ≡ 0
  pub last : (i : ℕ) → i < N → x.last i ≡ 0
  pub position : (i : ℕ) → i < N → x.position i ≡ 0
  pub changeover : (i : ℕ) → i < N → (j : ℕ) → j < N → x.changeover i j ≡ 0

-- tables of 0 and 1, with positions, that meet the three rules
pub record Meets (N : ℕ) (x : WeekTables) : Type 0 where
  pub is_binary : binary N x ≡ true
  pub meets31 : rule31 N x ≡ true
  pub meets32 : rule32 N x ≡ true
  pub meets34 : rule34 N x ≡ true
