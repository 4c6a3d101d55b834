-- `plant_file::plant_form` meets its contract: at each place it is known which rows the file has passed. Assumes nothing.
use mathlib.Core.Path.{sym, ◌∙◌}
use Rattle.plant_file.proofs.PlantReads.{plant_long, shape_holds, shape_long, shape_laid}
use Rattle.plant_file.proofs.plant_form.Goals as goal

pub is_laid_out-requires : goal.is_laid_out-requires
is_laid_out-requires c = plant_long _ (sym c.is_plant_headed.ensures ∙ c.if-not-is_plant_headed.false)

pub shape_of-f-requires : goal.shape_of-f-requires
shape_of-f-requires c =
    shape_holds _ (sym c.is_plant_headed.ensures ∙ c.if-not-is_plant_headed.false) (sym c.is_laid_out.ensures ∙ c.if-not-is_laid_out.false)

pub has_lengths-requires : goal.has_lengths-requires
has_lengths-requires c = shape_long _ _ c.shape_of-f.ensures (sym c.is_plant_headed.ensures ∙ c.if-not-is_plant_headed.false)

pub invariant_of-file : goal.invariant_of-file
invariant_of-file c =
    record {
      laid =
          shape_laid _ _ c.shape_of-f.ensures
          (sym c.is_plant_headed.ensures ∙ c.if-not-is_plant_headed.false)
          (sym c.is_laid_out.ensures ∙ c.if-not-is_laid_out.false)
          (sym c.has_lengths.ensures ∙ c.if-not-has_lengths.false);
    }
