-- What the rows on a file's contents test, as facts about numbers, both ways. Assumes nothing.
use Prim.Native.Nat.{ℕ, zero, suc, ◌+◌, ◌*◌, ◌≤◌, ◌<◌}
use mathlib.Core.Path.{◌≡◌, sym, ◌∙◌}
use mathlib.Core.Bool.{true}
use mathlib.Core.List.{List}
use native.Mathlib.Omega.{arith}
use lib.ListN.{length, get_or}
use lib.Dec.{leb, eqb}
use borrow.Author.Tests.{leb-true, le-leb, eqb-true, eq-eqb}
use Rattle.mathematics.specs.Below.{sum_below, all_below}
use Rattle.mathematics.proofs.Below.{and_both, both_and, all_each, each_all, sum_prefix}
use Rattle.contents.specs.Contents.{entry, offset, extent, headed, edge, placed, sized}

-- rows 1, 11, 21
pub record Headed (s : List ℕ) (kind first count : ℕ) : Type 0 where
  pub long : 2 + 9 * count ≤ length s
  pub kinds : get_or s 0 0 ≡ kind
  pub counts : get_or s 1 0 ≡ count
  pub numbers : (i : ℕ) → i < count → (entry s i).number ≡ first + i

pub headed_facts : (s : List ℕ) (kind first count : ℕ) → headed s kind first count ≡ true → Headed s kind first count
unfolding headed
headed_facts s kind first count h =
    let a = and_both (leb (2 + 9 * count) (length s)) _ h in
    let b = and_both (eqb (get_or s 0 0) kind) _ a.1 in
    let d = and_both (eqb (get_or s 1 0) count) _ b.1 in
    record {
      long = leb-true _ _ a.0;
      kinds = eqb-true _ _ b.0;
      counts = eqb-true _ _ d.0;
      numbers = λ i l. eqb-true _ _ (all_each count (λ j. eqb (entry s j).number (first + j)) d.1 i l);
    }

pub facts_headed : (s : List ℕ) (kind first count : ℕ) → Headed s kind first count → headed s kind first count ≡ true
unfolding headed
facts_headed s kind first count h =
    both_and _ _ (le-leb _ _ h.long)
    (both_and _ _ (eq-eqb _ _ h.kinds)
    (both_and _ _ (eq-eqb _ _ h.counts) (each_all count _ (λ i l. eq-eqb _ _ (h.numbers i l)))))

-- rows 2, 12, 22
pub record Placed (s : List ℕ) (count : ℕ) : Type 0 where
  pub begins : (i : ℕ) → i < count → offset s i ≡ edge s count i
  pub ends : edge s count count ≡ length s

pub placed_facts : (s : List ℕ) (count : ℕ) → placed s count ≡ true → Placed s count
unfolding placed
placed_facts s count h =
    let a = and_both (all_below count (λ i. eqb (offset s i) (edge s count i))) _ h in
    record {
      begins = λ i l. eqb-true _ _ (all_each count (λ j. eqb (offset s j) (edge s count j)) a.0 i l);
      ends = eqb-true _ _ a.1;
    }

pub facts_placed : (s : List ℕ) (count : ℕ) → Placed s count → placed s count ≡ true
unfolding placed
facts_placed s count h = both_and _ _ (each_all count _ (λ i l. eq-eqb _ _ (h.begins i l))) (eq-eqb _ _ h.ends)

-- rows 4, 13, 23
pub sized_at : (s lengths : List ℕ) → sized s lengths ≡ true → (i : ℕ) → i < length lengths → extent s i ≡ get_or lengths i 0
unfolding sized
sized_at s lengths h i l = eqb-true _ _ (all_each (length lengths) (λ j. eqb (extent s j) (get_or lengths j 0)) h i l)

pub at_sized : (s lengths : List ℕ) → ((i : ℕ) → i < length lengths → extent s i ≡ get_or lengths i 0) → sized s lengths ≡ true
unfolding sized
at_sized s lengths h = each_all (length lengths) _ (λ i l. eq-eqb _ _ (h i l))

-- bodies that are placed lie end to end, within the file
module _ (s : List ℕ) (count : ℕ) (h : Placed s count) where
  pub edge_sum : (i : ℕ) → i ≤ count → edge s count i ≡ 2 + 9 * count + sum_below i (extent s)
  edge_sum zero l = omega arith
  edge_sum (suc i) l = omega (arith, h.begins i l, edge_sum i (omega arith))

  pub offset_sum : (i : ℕ) → i < count → offset s i ≡ 2 + 9 * count + sum_below i (extent s)
  offset_sum i l = h.begins i l ∙ edge_sum i (omega arith)

  pub total : 2 + 9 * count + sum_below count (extent s) ≡ length s
  total = sym (edge_sum count (omega arith)) ∙ h.ends

  pub fits : (i : ℕ) → i < count → offset s i + extent s i ≤ length s
  fits i l = omega (arith, offset_sum i l, sum_prefix count (extent s) (suc i) l, total)
