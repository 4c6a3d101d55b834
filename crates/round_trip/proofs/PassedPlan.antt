-- What the demands say of a plan that passes: which bytes slot return and plan writing answer with. Assumes nothing.
use Prim.Native.Nat.{ℕ, ◌≤◌}
use mathlib.Core.Path.{◌≡◌, refl, sym, ap, ◌∙◌}
use mathlib.Core.List.{List, ◌++◌, append-nil}
use native.Mathlib.Omega.{arith}
use lib.ListN.{length, take, drop}
use lib.Seq.{drop-length, take-length}
use Rattle.numbers.specs.Number.{Bytes}
use Rattle.std.specs.Prelude.{Err, Ok}
use Rattle.sections.specs.Rows.{Form}
use Rattle.plant_file.specs.Form.{plant_form}
use Rattle.units.specs.declared.Profit.{Profit}
use Rattle.calls.specs.Check.{check_of}
use Rattle.calls.specs.Answer.{Answer, bytes, refused, slot_answer, plan_answer, written_in, output_after}
use Rattle.calls.proofs.Output.{written_back}
use Rattle.demands.proofs.OtherDemandsHold.{first_demand}
use Rattle.demands.proofs.ThirdDemandHolds.{third_demand}

-- bytes that were written are read back from the output
pub written_read : (b out after : List ℕ) (m : ℕ) (a : Answer) → a ≡ bytes b → written_in a out ≡ Ok m → after ≡ output_after a out
    → (m ≤ length after) × (take m after ≡ b)
written_read b out after m a e w l = let r = written_back b out m (rw e at w) in rw (l, e) (r.1, r.2)

-- an answer that leaves b at the start of every output as long is b
answer_is : (a : Answer) (b : List ℕ)
    → ((out : List ℕ) → length b ≤ length out → (written_in a out ≡ Ok (length b)) × (output_after a out ≡ b ++ drop (length b) out))
    → a ≡ bytes b
unfolding written_in
answer_is (bytes c) b h =
    let e = h b (omega arith) in
    let r = written_back c b (length b) e.0 in
    let whole : output_after (bytes c) b ≡ b = e.1 ∙ (ap (λ (r : List ℕ). b ++ r) (drop-length b) ∙ append-nil b) in
    ap bytes (sym r.2 ∙ (ap (take (length b)) whole ∙ take-length b))
answer_is (refused n) b h = absurd (let e = (h b (omega arith)).0 in let z : ◌≡◌ {A = ℕ} 0 1 = cc in omega arith)

module _ (plant plan : List ℕ) (b : Bytes plan) (q : Profit) (e : check_of plant plan ≡ Ok q) where
  of_form : (r : Form) → plant_form plant ≡ r → (slots : List ℕ) × (slot_answer plant plan ≡ bytes slots) × (plan_answer plant slots ≡ bytes plan)
  of_form (Ok f) accepted =
      let third = third_demand plant f accepted plan b in
      let g = third.passes_exactly.0 (q, e) in (
        g.0,
        answer_is (slot_answer plant plan) g.0 (third.slots_returned g.0 g.1 g.2),
        answer_is (plan_answer plant g.0) plan (third.plan_again g.0 g.1 g.2),
      )
  of_form (Err n) refuses =
      let r : check_of plant plan ≡ Err n = ((first_demand plant plan plan).plant_refused n refuses).0 in
      absurd (let z : ◌≡◌ {A = ℕ} 0 1 = cc in omega arith)

  -- there are slots that slot return answers with, and of which plan writing answers with the plan
  pub slots_and_back : (slots : List ℕ) × (slot_answer plant plan ≡ bytes slots) × (plan_answer plant slots ≡ bytes plan)
  slots_and_back = of_form (plant_form plant) refl

  -- slots that were written are read back from the output, and give the plan
  pub slots_read : (slots after : List ℕ) (n : ℕ) → written_in (slot_answer plant plan) slots ≡ Ok n
      → after ≡ output_after (slot_answer plant plan) slots → (n ≤ length after) × (plan_answer plant (take n after) ≡ bytes plan)
  slots_read slots after n w l =
      let z = slots_and_back in
      let r = written_read z.0 slots after n (slot_answer plant plan) z.1 w l in
      (r.0, rw r.1 z.2)
