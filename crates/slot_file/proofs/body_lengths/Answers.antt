-- `slot_file::body_lengths` meets its contract. Assumes nothing.
use native.Mathlib.Omega.{arith}
use mathlib.Core.Path.{refl}
use Rattle.slot_file.proofs.SlotPlaces.{lengths_known, lengths_listable}
use Rattle.slot_file.proofs.body_lengths.Goals as goal

pub invariant_of-result : goal.invariant_of-result
invariant_of-result c =
    let a = c.args in
    let v = c.volume-sales.ensures in
    record {
      few = omega arith;
      listable =
          lengths_listable a.f a.total (omega (arith, c.from-weeks.ensures)) (omega arith) (omega (arith, v.0)) c.requires (omega arith)
          (omega (arith, v.0, v.1));
    }

pub returns : goal.returns
returns c =
    record {
      kind = refl;
      first = refl;
      sections = refl;
      bodies =
          lengths_known c.args.f c.args.total (omega (arith, c.from-weeks.ensures)) (omega arith) (omega (arith, c.volume-sales.ensures.0));
    }
