-- `plan_file::plan_form` meets its contract: at each row it is known which rows the plan has passed. Assumes nothing.
use native.Mathlib.Omega.{arith}
use mathlib.Core.Path.{sym, ◌∙◌}
use Prim.Native.Nat.{◌≤◌}
use lib.ListN.{length}
use Rattle.contents.proofs.Facts.{headed_facts}
use Rattle.plan_file.proofs.plan_form.Goals as goal
use Rattle.plan_file.proofs.plan_form.Goals.{Else-not-is_headed}

long : (c : Else-not-is_headed) → 110 ≤ length c.args.s.now
long c = (headed_facts _ _ _ _ (sym c.is_headed.ensures ∙ c.if-not-is_headed.false)).long

pub is_placed-requires : goal.is_placed-requires
is_placed-requires c = (long (goal.at.is_placed-requires c).Else-not-is_headed, omega arith)

pub has_lengths-requires : goal.has_lengths-requires
has_lengths-requires c = long (goal.at.has_lengths-requires c).Else-not-is_headed

pub is_binary-requires : goal.is_binary-requires
is_binary-requires c =
    record {
      few = omega arith;
      long = long (goal.at.is_binary-requires c).Else-not-is_headed;
      lies = sym c.is_placed.ensures ∙ c.if-not-is_placed.false;
      lens = sym c.has_lengths.ensures ∙ c.if-not-has_lengths.false;
    }
