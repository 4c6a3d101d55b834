-- `plant_file::PlantFile::copy_body` meets its contract. Assumes nothing.
use native.Mathlib.Omega.{arith}
use native.Mathlib.Nat.{one-mul}
use mathlib.Core.Path.{◌≡◌, sym, ap, ◌∙◌}
use lib.ListN.{get_or}
use Rattle.numbers.specs.Number.{Bytes, store}
use Rattle.contents.specs.Contents.{extent}
use Rattle.contents.specs.declared.Entry.{Entry}
use Rattle.sections.specs.Section.{Laid, Holds}
use Rattle.sections.proofs.Rows.{laid_extent, laid_holds, width1}
use Rattle.sections.proofs.Tables.{section_is}
use Rattle.plant_file.specs.Form.{plant_lengths}
use Rattle.plant_file.proofs.PlantKinds.{kind_lengths, kind_sections}
use Rattle.plant_file.proofs.PlantReads.{good_laid}
use Rattle.plant_file.proofs.PlantIsFile.{body_is}
use Rattle.plant_file.proofs.file.PlantFile.copy_body.Goals as goal
use Rattle.plant_file.proofs.file.PlantFile.copy_body.Goals.{After-entry_in-e}

module _ (c : After-entry_in-e) where
  laid : Laid c.args.self.bytes.now (plant_lengths c.args.self.shape)
  laid = good_laid c.args.self.bytes.now c.args.self.shape c.args.self.accepted

  -- the body's length, which was read
  extent_is : c.entry_in-e.result.length ≡ extent c.args.self.bytes.now c.args.place
  extent_is = ap (λ (x : Entry). x.length) c.entry_in-e.ensures.0

  length_is : c.entry_in-e.result.length ≡ get_or (plant_lengths c.args.self.shape) c.args.place 0
  length_is = extent_is ∙ laid_extent laid c.args.place (omega (arith, c.requires.0, kind_lengths c.args.self.shape))

  held : Holds c.args.self.bytes.now c.args.place 1 c.entry_in-e.result.length
  held =
      laid_holds laid c.args.place (omega (arith, c.requires.0, kind_lengths c.args.self.shape)) 1 _ width1 (omega (arith, length_is))

pub entry_in-e-requires : goal.entry_in-e-requires
entry_in-e-requires c =
    let few = (kind_sections c.args.self.shape.kind).1 in
    let z = good_laid c.args.self.bytes.now c.args.self.shape c.args.self.accepted in
    (omega (arith, c.requires.0, few), omega (arith, z.long, c.requires.0, kind_lengths c.args.self.shape))

pub returns : goal.returns
returns c =
    let bytes : Bytes c.args.self.bytes.now = c.args.self.octets in
    c.copy_section.ensures
    ∙ ap (store c.args.out.now 0)
    (section_is 1 _ c.args.self.bytes.now c.args.place bytes (held (goal.at.returns c).After-entry_in-e) (sym (extent_is (goal.at.returns c).After-entry_in-e) ∙ sym (one-mul _))
    ∙ sym (body_is c.args.self.shape c.args.self.bytes.now bytes c.args.self.accepted c.args.place c.requires.0))

pub copy_section-requires : goal.copy_section-requires
copy_section-requires c = (
  held (goal.at.copy_section-requires c).After-entry_in-e,
  omega (arith, length_is (goal.at.copy_section-requires c).After-entry_in-e, c.requires.1),
)
