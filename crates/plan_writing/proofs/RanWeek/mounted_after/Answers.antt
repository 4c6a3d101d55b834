-- `plan_writing::RanWeek::mounted_after` meets its contract. Assumes nothing.
use native.Mathlib.Omega.{arith}
use mathlib.Core.Path.{◌≡◌, refl, ap, ◌∙◌}
use mathlib.Core.List.{List, [], ◌∷◌}
use Prim.Native.Nat.{ℕ, zero, suc, ◌-◌}
use lib.ListN.{length}
use Rattle.mathematics.specs.Order.{order_at}
use Rattle.slot_file.specs.Slots.{order_of_slots}
use Rattle.slot_file.specs.Accepted.{slots_in_week}
use Rattle.std.specs.Prelude.{Some}
use Rattle.costs.specs.Mounted.{Mounted}
use Rattle.model.specs.RunTables.{last_of}
use Rattle.plan_writing.proofs.WeekRows.{order_size, product_at_lem}
use Rattle.plan_writing.proofs.Files.{runs}
use Rattle.plan_writing.proofs.RanWeek.mounted_after.Goals as goal

-- after some products the last is mounted
last_mounted : (m : Mounted) (ps : List ℕ) (n : ℕ) → length ps ≡ suc n → Some (order_at ps n) ≡ last_of m ps
last_mounted m [] n e = absurd (omega arith)
last_mounted m (p ∷ []) zero e = refl
last_mounted m (p ∷ []) (suc n) e = absurd (omega arith)
last_mounted m (p ∷ q ∷ ps) zero e = absurd (omega arith)
last_mounted m (p ∷ q ∷ ps) (suc n) e = last_mounted (Some p) (q ∷ ps) n (omega arith)

-- after none what was mounted
none_mounted : (m : Mounted) (ps : List ℕ) → length ps ≡ 0 → m ≡ last_of m ps
none_mounted m [] e = refl
none_mounted m (p ∷ ps) e = absurd (omega arith)

pub returns-then-self-eq0 : goal.returns-then-self-eq0
returns-then-self-eq0 c =
    let a = c.args in
    none_mounted a.mounted (order_of_slots (slots_in_week a.self.row)) (order_size (runs c.args.self) ∙ c.if-self-eq0.true)

pub returns : goal.returns
returns c =
    let a = c.args in
    let ps = order_of_slots (slots_in_week a.self.row) in
    ap Some (product_at_lem (runs c.args.self) (a.self.row.count - 1) c.product.ensures.0)
    ∙ last_mounted a.mounted ps (a.self.row.count - 1) (omega (arith, order_size (runs c.args.self), c.if-self-eq0.false))
