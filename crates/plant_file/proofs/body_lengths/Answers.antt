-- `plant_file::body_lengths` meets its contract. Assumes nothing.
use native.Mathlib.Omega.{arith}
use borrow.Author.Rules.{rules}
use mathlib.Core.Path.{sym, ap, ◌∙◌}
use Rattle.plant_file.specs.declared.PlantKind.{PlantKind}
use Rattle.plant_file.proofs.Lengths.{listable}
use Rattle.plant_file.proofs.PlantKinds.{kind_lengths, first_lengths, kind_sections}
use Rattle.plant_file.proofs.body_lengths.Goals as goal

pub invariant_of-result : goal.invariant_of-result
invariant_of-result c =
    let f = c.args.f in
    record {
      few = omega (arith, ap (λ (k : PlantKind). k.sections) c.plant_kind-k.ensures, (kind_sections f.kind).1);
      listable = rw (first_lengths f _ _ c.plant_kind-k.ensures c.lengths_of.ensures) (listable f (omega arith, omega arith, omega arith));
    }

pub returns : goal.returns
returns c =
    record {
      kind = ap (λ (k : PlantKind). k.number) c.plant_kind-k.ensures;
      first = search rules;
      sections = ap (λ (k : PlantKind). k.sections) c.plant_kind-k.ensures ∙ sym (kind_lengths c.args.f);
      bodies = first_lengths c.args.f _ _ c.plant_kind-k.ensures c.lengths_of.ensures;
    }
