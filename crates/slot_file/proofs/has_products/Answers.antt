-- `slot_file::has_products` meets its contract: the loop has tried the slots below `j`. Assumes nothing.
use Rattle.std.proofs.Common.{arith, rules}
use borrow.Author.Tests.{tests}
use native.Mathlib.Numerals.{add-one}
use Rattle.slot_file.specs.Slots.{slot_at}
use Rattle.slot_file.proofs.has_products.Goals as goal

pub loop-j-preserved : goal.loop-j-preserved
unfolding slot_at
loop-j-preserved c = rw add-one (search (rules, tests))

pub returns : goal.returns
returns c = search rules
