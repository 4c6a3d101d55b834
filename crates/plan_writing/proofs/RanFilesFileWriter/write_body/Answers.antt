-- `plan_writing::RanFiles::write_body` meets its contract, place by place. Assumes nothing.
use borrow.Author.Rules.{rules}
use mathlib.Core.Path.{sym, ap, ◌∙◌}
use mathlib.Core.List.{List, []}
use mir.Syntax.{w64}
use mir.Val.{of_z}
use mir.ValLaws.{to_z-of_z}
use Prim.Native.Nat.{ℕ}
use lib.ListN.{get_or}
use Rattle.numbers.specs.Number.{digits, store}
use Rattle.numbers.specs.Signed.{unsigned_of}
use Rattle.plan_file.specs.File.{plan_bodies}
use Rattle.model.specs.RunTables.{run_tables}
use Rattle.plan_writing.specs.declared.RanFiles.{RanFiles}
use Rattle.plan_writing.specs.Files.{tables_in}
use Rattle.plan_writing.proofs.RanFilesFileWriter.write_body.Goals as goal

abbrev body : RanFiles → ℕ → List ℕ
body files k = get_or (plan_bodies files.slots.shape (tables_in files)) k []

pub returns-in-8 : goal.returns-in-8
unfolding plan_bodies run_tables
returns-in-8 c = c.write_sales.ensures ∙ ap (store c.args.out.now 0) (ap (body c.args.self) (sym c.in-8.is))

pub returns-in-11 : goal.returns-in-11
unfolding plan_bodies
returns-in-11 c =
    let profit = c.args.self.profit.0 in
    let number = c.unsigned.ensures ∙ ap unsigned_of (to_z-of_z w64 profit (record { sfits = search rules }) ∙ c.args.self.earned) in
    c.write.ensures ∙ ap (store c.args.out.now 0) (ap (digits 8) number ∙ ap (body c.args.self) (sym c.in-11.is))
