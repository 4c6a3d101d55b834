-- `costs::changeover_to` meets its contract. Assumes nothing.
use Prim.Native.Nat.{◌+◌, ◌*◌}
use mathlib.Core.Path.{◌≡◌, refl, ◌∙◌}
use native.Mathlib.Omega.{arith}
use Rattle.mathematics.proofs.Pairs.{table_at}
use Rattle.plant_file.specs.Accepted.{plant_in}
use Rattle.costs.specs.Changeover.{changeover_between}
use Rattle.costs.proofs.Changeovers.{mounted_at_lem}
use Rattle.costs.proofs.changeover_to.Goals as goal

-- the product that is mounted is one of the plant's
pub index2-requires : goal.index2-requires
index2-requires c =
    (mounted_at_lem _ c.requires.0 c.in-Some.is c.from.ensures, c.requires.1)

pub returns-in-None : goal.returns-in-None
returns-in-None c = rw c.in-None.is (record { minutes = refl; cents = refl; minutes_most = omega arith; cents_most = omega arith })

pub returns-in-Some : goal.returns-in-Some
returns-in-Some c =
    let line = (plant_in c.args.plant).line in
    let e : c.index2.result ≡ c.in-Some.q * c.args.plant.shape.products + c.args.product =
    rw (← c.from.ensures) c.index2.ensures.0 in
    let r = c.changeover.ensures in
    rw c.in-Some.is
    (record {
      minutes = r.minutes ∙ table_at (changeover_between line.changeover_minutes) e c.requires.1;
      cents = r.cents ∙ table_at (changeover_between line.changeover_cents) e c.requires.1;
      minutes_most = r.minutes_most;
      cents_most = r.cents_most;
    })
