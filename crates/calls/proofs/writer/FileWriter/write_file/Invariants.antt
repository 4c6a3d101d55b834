-- `calls::writer::FileWriter::write_file` meets its contract: the contents and the bodies below `place` are stored. Assumes nothing.
use mathlib.Core.Path.{◌≡◌}
use mathlib.Core.List.{List}
use Prim.Native.Nat.{ℕ}
use lib.ListN.{length}
use Rattle.numbers.specs.Number.{store}
use Rattle.contents.proofs.FileStored.{first_bodies}
use Rattle.calls.proofs.writer.FileWriter.write_file.Given as goal

-- whatever the contents were stored in
abbrev pub invariant-loop-place : goal.invariant-loop-place
invariant-loop-place g l =
    let w = g.Self.FileWriter in
    let first = first_bodies w.kind.number w.kind.first (w.bodies l.self) in
    (length l.out ≡ length l.initial.out) × ((s : List ℕ) → l.initial.out ≡ store s 0 (first 0) → l.out ≡ store s 0 (first l.place))
