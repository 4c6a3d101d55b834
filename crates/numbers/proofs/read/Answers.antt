-- `numbers::read` meets its contract: one byte more below those that were read. Assumes nothing.
use Rattle.std.proofs.Common.{arith, suc, ◌≡◌, ◌≤◌, ◌<◌, ◌+◌, ◌-◌, ◌^◌}
use native.Mathlib.Nat.{pow-suc, pow-le-pow_right}
use Rattle.numbers.proofs.read.Goals as goal
use Rattle.numbers.proofs.read.Goals.{In-loop-i}

-- at most seven bytes are read before the last
small : (c : In-loop-i) → c.loop-i.number < 256 ^ 7
small c =
    let most : 256 ^ (c.args.k - c.loop-i.i) ≤ 256 ^ 7 = pow-le-pow_right (omega arith) {j = 7} (omega arith) in
    omega (arith, most, c.loop-i.invariant.1)

pub overflow_mul-number : goal.overflow_mul-number
overflow_mul-number c = record { fits = omega (arith, small c) }

pub overflow_add-number : goal.overflow_add-number
overflow_add-number c =
    record { fits = omega (arith, small (goal.at.overflow_add-number c).In-loop-i, c.type_inv.s (c.args.at + (c.loop-i.i - 1))) }

pub loop-i-preserved : goal.loop-i-preserved
loop-i-preserved c =
    let a = c.args in
    let i = c.loop-i.i in
    let m : a.k - (i - 1) ≡ suc (a.k - i) = omega arith in
    let n : a.at + i ≡ a.at + (i - 1) + 1 = omega arith in
    let rest = rw n at c.loop-i.invariant.0 in
    let byte = c.type_inv.s (a.at + (i - 1)) in
    (rw m (omega (arith, rest)), rw (m, pow-suc) (omega (arith, byte)))
