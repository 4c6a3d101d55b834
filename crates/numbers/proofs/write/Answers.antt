-- `numbers::write` meets its contract: what the loop has left to store, stored, gives the whole. Assumes nothing.
use Rattle.std.proofs.Common.{arith, ◌≡◌, ◌∙◌, ◌+◌, ◌-◌, ℕ, List, [], suc, length, take, drop, add-one}
use mathlib.Core.List.{append-nil, append_assoc}
use lib.ListN.{length-set, drop_of_length-le}
use lib.Seq.{sets, sets-eq, drop-drop}
use Rattle.numbers.specs.Number.{digits}
use Rattle.numbers.proofs.Number.{digits_length}
use Rattle.numbers.proofs.Store.{part_length}
use Rattle.numbers.proofs.write.Goals as goal

-- a list stored over one of its length
sets_all : (s b : List ℕ) → length s ≡ length b → sets s 0 b ≡ b
sets_all s b h =
    let none : drop (0 + length b) s ≡ [] = drop_of_length-le s {i = 0 + length b} (omega arith) in
    sets-eq b s 0 (omega arith) ∙ rw (none, append-nil)

pub loop-byte-init : goal.loop-byte-init
loop-byte-init c =
    let a = c.args in
    let e : a.at + a.k - a.at ≡ a.k = omega arith in
    let n : length (take (a.at + a.k - a.at) (drop a.at a.out.now)) ≡ a.k = rw e (part_length a.out.now a.at a.k c.requires) in
    let z : a.k - 0 ≡ a.k = omega arith in
    (n, rw z (sets_all _ _ (rw digits_length n)))

pub loop-byte-preserved : goal.loop-byte-preserved
loop-byte-preserved c =
    let i = c.loop-byte.byte-index in
    let k = c.args.k in
    let e : k - i ≡ suc (k - suc i) = omega arith in
    (rw length-set c.loop-byte.invariant.0, rw add-one (rw e at c.loop-byte.invariant.1))

pub returns : goal.returns
returns c =
    let a = c.args in
    let e : a.at + a.k - a.at ≡ a.k = omega arith in
    let d : a.k - c.loop-byte.byte-index ≡ 0 = omega arith in
    let bytes : c.loop-byte.byte-items ≡ digits a.k a.v = rw d at c.loop-byte.invariant.1 in
    rw (e, bytes, digits_length, drop-drop, append_assoc)
