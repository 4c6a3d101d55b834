-- `plant_file::LaidFile::is_storage_in_range` meets its contract. Assumes nothing.
use borrow.Author.Rules.{rules}
use borrow.Author.Tests.{tests}
use Prim.Native.Nat.{◌+◌, ◌*◌}
use mathlib.Core.Bool.{◌&&◌}
use lib.Dec.{leb}
use Rattle.mathematics.proofs.Ranges.{all_in_range}
use Rattle.contents.specs.Contents.{cell}
use Rattle.sections.specs.Limits.{most_storage}
use Rattle.plant_file.specs.Form.{storage_in_range}
use Rattle.plant_file.proofs.laid.LaidFile.is_storage_in_range.Goals as goal

pub returns : goal.returns
unfolding storage_in_range
returns c =
    let s = c.args.self.bytes.now in
    all_in_range (λ i. leb (cell 4 s 8 (2 * i)) (cell 4 s 8 (2 * i + 1)) && leb (cell 4 s 8 (2 * i + 1)) most_storage)
    c.args.self.shape.products _ _ _ c.all.ensures.ran (λ u. record { start = 0; end = c.from.ensures u }) (λ x b q k. search (rules, tests))
