-- `costs::changeover` meets its contract. Assumes nothing.
use Rattle.costs.specs.Changeover.{changeover_between}
use Rattle.costs.proofs.changeover.Goals as goal

pub returns : goal.returns
unfolding changeover_between
returns c =
    let minutes = c.changeover_minutes.ensures in
    let cents = c.changeover_cents.ensures in
    record { minutes = minutes.0; cents = cents.0; minutes_most = minutes.1; cents_most = cents.1 }
