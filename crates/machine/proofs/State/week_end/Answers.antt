-- `machine::State::week_end` meets its contract. Assumes nothing.
use Prim.Native.Nat.{◌≤◌}
use native.Mathlib.Omega.{arith}
use lib.Signed.{mag}
use mathlib.Core.Path.{sym}
use Rattle.machine.specs.Bounds.{Roomy}
use Rattle.machine.proofs.Inputs.{roomy}
use Rattle.machine.proofs.Steps.{backlog_stopped, inventory_stopped, week_updated}
use Rattle.machine.proofs.State.week_end.Goals as goal
use Rattle.machine.proofs.State.week_end.Goals.{In-Ok-inventory_update, Start}

wide : (c : Start) → Roomy c.args.input.plant.shape c.args.self
wide c = roomy c.args.input c.args.week c.requires.0 c.args.self c.requires.1

-- the profit and the week's amounts are small
amounts : (c : In-Ok-inventory_update) → (mag c.args.self.profit.0 ≤ 4000000000000000000)
    × (c.in-Ok.carried.revenue.0 ≤ 60000000000000000)
    × (c.in-Ok.carried.charge.0 ≤ 60000000000000000)
    × (c.in-Ok-inventory_update.sold.charge.0 ≤ 60000000000000000)
amounts c =
    let room = roomy c.args.input c.args.week c.requires.0 c.args.self c.requires.1 in
    (omega (arith, room.profit_most), c.in-Ok.ensures.revenue_most, c.in-Ok.ensures.charge_most, c.in-Ok-inventory_update.ensures.charge_most)

pub backlog_update-requires : goal.backlog_update-requires
backlog_update-requires c = (c.requires.0, wide (goal.at.backlog_update-requires c).Start)

pub inventory_update-requires : goal.inventory_update-requires
inventory_update-requires c = (c.requires.0, wide (goal.at.inventory_update-requires c).Start)

pub gain-requires : goal.gain-requires
gain-requires c = omega (arith, amounts (goal.at.gain-requires c).In-Ok-inventory_update)

pub pay-requires : goal.pay-requires
pay-requires c = omega (arith, amounts (goal.at.pay-requires c).In-Ok-inventory_update, c.gain.ensures.1)

pub pay-profit-requires : goal.pay-profit-requires
pay-profit-requires c = omega (arith, amounts (goal.at.pay-profit-requires c).In-Ok-inventory_update, c.gain.ensures.1, c.pay.ensures.1)

pub returns-in-Err : goal.returns-in-Err
returns-in-Err c = sym (backlog_stopped _ _ _ _ c.in-Err.ensures)

pub returns-in-Err-inventory_update : goal.returns-in-Err-inventory_update
returns-in-Err-inventory_update c =
    sym (inventory_stopped _ _ _ c.in-Ok.ensures.due _ c.in-Err-inventory_update.ensures)

pub returns : goal.returns
returns c =
    sym (week_updated _ _ _ _ _ _ c.in-Ok.ensures c.in-Ok-inventory_update.ensures (rw (c.pay-profit.ensures.0, c.pay.ensures.0, c.gain.ensures.0)))
