-- A run, one step at a time: what is left to run, before and after a step. Assumes nothing.
use Prim.Native.Nat.{ℕ, suc, ◌+◌, ◌-◌, ◌<◌}
use mathlib.Core.Path.{◌≡◌, refl, sym, ap, ◌∙◌}
use native.Mathlib.Omega.{arith}
use Rattle.plant_file.specs.Plant.{Plant}
use Rattle.std.specs.Prelude.{Err, Ok}
use Rattle.machine.specs.declared.State.{State}
use Rattle.machine.specs.State.{Step, Outcome, continues, onward, and_then}
use Rattle.machine.specs.Machine.{week_begin, WeekInput, week_end}
use Rattle.machine.specs.Run.{run_slots, run_week, run_weeks}

-- ---- two steps, one after the other
pub continued_step : (r : Step) → r.outcome ≡ Ok tt → r ≡ continues r.state
continued_step r e = ap {B = Step} (λ (x : Outcome). record { state = r.state; outcome = x }) e

-- where both continue
pub then_continued : (r : Step) (next : State → Step) (t : State) → and_then r next ≡ continues t → (r.outcome ≡ Ok tt) × (next r.state ≡ continues t)
then_continued r next t e = go r.outcome refl e
  where
    go : (o : Outcome) → r.outcome ≡ o → onward o r (next r.state) ≡ continues t → (r.outcome ≡ Ok tt) × (next r.state ≡ continues t)
    go (Ok tt) q h = (q, h)
    go (Err n) q h =
        let a : ◌≡◌ {A = Outcome} (Err n) (Ok tt) = sym q ∙ ap (λ (x : Step). x.outcome) h in
        absurd (let z : ◌≡◌ {A = ℕ} 0 1 = cc in omega arith)

pub then_then : (r : Step) (g h : State → Step) → and_then (and_then r g) h ≡ and_then r (λ s. and_then (g s) h)
then_then r g h = go r.outcome
  where
    go : (o : Outcome) → let q : Step = record { state = r.state; outcome = o } in and_then (and_then q g) h ≡ and_then q (λ s. and_then (g s) h)
    go (Ok tt) = refl
    go (Err n) = refl

-- ---- a week, from what its slots gave on
module _ (P : Plant) (v : WeekInput) (s : State) where
  pub week_rest : (r : Step) → r ≡ run_slots P P.line v.slots (week_begin s) → and_then r (week_end P v) ≡ run_week P v s
  unfolding run_week
  week_rest r e = rw e

-- ---- weeks from week w of n on, from what week w gave on
module _ (P : Plant) (weeks : ℕ → WeekInput) (n w : ℕ) (l : w < n) (s : State) where
  pub weeks_rest : (r : Step) → r ≡ run_week P (weeks w) s
      → and_then r (run_weeks P weeks (n - (w + 1)) (w + 1)) ≡ run_weeks P weeks (n - w) w s
  weeks_rest r e = let q : n - w ≡ suc (n - (w + 1)) = omega arith in rw (q, e)
