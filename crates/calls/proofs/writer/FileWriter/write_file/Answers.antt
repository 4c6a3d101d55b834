-- `calls::writer::FileWriter::write_file` meets its contract: the contents and the bodies below `place` are stored. Assumes nothing.
use borrow.Author.Rules.{rules}
use borrow.Rule.Slice.PartMut.{put_mid}
use native.Mathlib.Omega.{arith}
use mathlib.Core.Path.{◌≡◌, refl, ap, ◌∙◌}
use mathlib.Core.List.{List, [], map}
use Prim.Native.Nat.{ℕ, ◌+◌, ◌-◌, ◌≤◌}
use lib.ListN.{length, get_or, length-map, length-take, length-drop}
use Rattle.numbers.specs.Number.{store}
use Rattle.contents.specs.File.{start, contents_bytes, file_of}
use Rattle.contents.proofs.Entries.{start_zero, start_next, start_below}
use Rattle.contents.proofs.FileLayout.{body_length}
use Rattle.contents.proofs.FileWritten.{file_length}
use Rattle.contents.proofs.FileStored.{first_bodies, all_stored, contents_first, stretch_stored}
use Rattle.calls.proofs.writer.FileWriter.write_file.Goals as goal
use Rattle.calls.proofs.writer.FileWriter.write_file.Goals.{After-section_start-at}

-- the file ends where its last body does
module _ (kind first : ℕ) (bodies : List (List ℕ)) where
  ends : (place : ℕ) → place ≤ length bodies → start (map length bodies) place ≤ length (file_of kind first bodies)
  ends place l =
      let all = start_below (map length bodies) place (omega (arith, length-map bodies length)) in
      omega (arith, all, file_length kind first bodies)

pub write_contents-requires : goal.write_contents-requires
write_contents-requires g c =
    let w = g.Self.FileWriter in
    let x = w.bodies c.args.self in
    let start = start_zero (map length x) in
    omega (arith, c.body_lengths-lengths.ensures.sections, start, ends w.kind.number w.kind.first x 0 (omega arith), c.requires)

module _ (g : _) (c : After-section_start-at g) where
  abbrev bodies : List (List ℕ)
  bodies = g.Self.FileWriter.bodies c.args.self

  at_is : c.section_start-at.result ≡ start (map length bodies) c.loop-place.place
  at_is = c.section_start-at.ensures.0 ∙ ap (λ (l : List ℕ). start l c.loop-place.place) c.body_lengths-lengths.ensures.bodies

  -- there are as many bodies as sections
  count : c.body_lengths-lengths.result.sections ≡ length bodies
  count = c.body_lengths-lengths.ensures.sections ∙ length-map bodies length

  -- the body in its place ends within the output
  inside : c.section_start-at.result + length (get_or bodies c.loop-place.place []) ≤ length c.loop-place.out
  inside =
      let w = g.Self.FileWriter in
      let place = c.loop-place.place in
      omega (
        arith,
        at_is,
        start_next (map length bodies) place,
        body_length bodies place,
        ends w.kind.number w.kind.first bodies (place + 1) (omega (arith, count)),
        c.requires,
        c.loop-place.invariant.0,
      )

pub slice_bounds-write_body-count : goal.slice_bounds-write_body-count
slice_bounds-write_body-count g c = omega (arith, inside g (goal.at.slice_bounds-write_body-count g c).After-section_start-at)

pub slice_bounds-write_body-start : goal.slice_bounds-write_body-start
slice_bounds-write_body-start g c = omega (arith, inside g (goal.at.slice_bounds-write_body-start g c).After-section_start-at)

pub write_body-requires : goal.write_body-requires
write_body-requires g c =
    let d = (goal.at.write_body-requires g c).After-section_start-at in
    (omega (arith, count g d), simp (length-take, length-drop) (omega (arith, inside g d)))

pub loop-place-preserved : goal.loop-place-preserved
loop-place-preserved g c =
    let d = (goal.at.loop-place-preserved g c).After-section_start-at in
    let w = g.Self.FileWriter in
    let b = c.loop-place in
    let at = c.section_start-at.result in (
      search rules,
      λ s e. ap (put_mid at (length b.out - at) b.out) c.write_body.ensures
          ∙ stretch_stored w.kind.number w.kind.first (bodies g d) (map length (bodies g d)) refl s b.out b.place at (b.invariant.1 s e)
          (at_is g d) (omega (arith, inside g d)),
    )

pub returns : goal.returns
returns g c =
    let w = g.Self.FileWriter in
    let x = w.bodies c.args.self in
    let b = c.loop-place in
    let out = c.args.out.now in
    let e = c.body_lengths-lengths.ensures in
    let all : b.place ≡ length x = omega (arith, e.sections, length-map x length) in
    let begun =
    c.write_contents.ensures
    ∙ ((λ u. store out 0 (contents_bytes (e.kind u) (e.first u) (e.bodies u)))
    ∙ ap (store out 0) (contents_first w.kind.number w.kind.first x (map length x) refl)) in
    b.invariant.1 out begun
    ∙ ap (store out 0) (ap (first_bodies w.kind.number w.kind.first x) all ∙ all_stored w.kind.number w.kind.first x)
