-- `calls::writer::FileWriter::write_where_room` meets its contract. Assumes nothing.
use native.Mathlib.Omega.{arith}
use mathlib.Core.Path.{refl, ap}
use mathlib.Core.List.{List}
use Prim.Native.Nat.{ℕ}
use Rattle.std.specs.Prelude.{Ok}
use Rattle.contents.specs.File.{file_of}
use Rattle.calls.proofs.Output.{short_as, written_as}
use Rattle.calls.proofs.writer.FileWriter.write_where_room.Goals as goal
use Rattle.calls.proofs.writer.FileWriter.write_where_room.Goals.{After-file_length-size}

-- the file to write
abbrev file : (g : _) → After-file_length-size g → List ℕ
file g c = let w = g.Self.FileWriter in file_of w.kind.number w.kind.first (w.bodies c.args.self)

pub returns-then-out-size : goal.returns-then-out-size
returns-then-out-size g c =
    let d = (goal.at.returns-then-out-size g c).After-file_length-size in
    let r = short_as (file g d) c.args.out.now (omega (arith, c.file_length-size.ensures, c.if-out-size.true)) (refl, refl) in
    record { result = r.0; output = r.1 }

pub returns : goal.returns
returns g c =
    let d = (goal.at.returns g c).After-file_length-size in
    let size = c.file_length-size.ensures in
    let room = c.if-out-size.false in
    let r =
    written_as (file g d) c.args.out.now refl (omega (arith, size, room)) (ap Ok (omega (arith, size)), c.write_file.ensures) in
    record { result = r.0; output = r.1 }
