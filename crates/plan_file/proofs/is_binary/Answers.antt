-- `plan_file::is_binary` meets its contract. Assumes nothing.
use native.Mathlib.Omega.{arith}
use mathlib.Core.Path.{refl, sym}
use Rattle.sections.proofs.Rows.{width1}
use Rattle.sections.proofs.Layouts.{table_rows}
use Rattle.plan_file.proofs.Lengths.{holds}
use Rattle.plan_file.proofs.is_binary.Goals as goal

pub in_range-assigned-requires : goal.in_range-assigned-requires
in_range-assigned-requires c =
    holds c.args.f c.requires _ (omega arith) width1 refl c.area-products.ensures.0

pub in_range-first-requires : goal.in_range-first-requires
in_range-first-requires c =
    holds c.args.f c.requires _ (omega arith) width1 refl c.area-products.ensures.0

pub in_range-last-requires : goal.in_range-last-requires
in_range-last-requires c =
    holds c.args.f c.requires _ (omega arith) width1 refl c.area-products.ensures.0

pub in_range-within-requires : goal.in_range-within-requires
in_range-within-requires c =
    holds c.args.f c.requires _ (omega arith) width1 (sym (table_rows 1 _ _ _)) c.volume-arcs.ensures.0

pub in_range-between-requires : goal.in_range-between-requires
in_range-between-requires c =
    holds c.args.f c.requires _ (omega arith) width1 (sym (table_rows 1 _ _ _)) c.volume-arcs.ensures.0
