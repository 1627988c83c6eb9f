use Rattle.std.proofs.Common.{refl, subst}
use Rattle.f3_word_cells.specs.declared.cell.Datum.{Datum}
use Rattle.f3_word_cells.specs.Areas.{IsDatum}
use Rattle.f3_word_areas.proofs.Plain.{plain_is}
use Rattle.f3_word_areas.proofs.values.plain.Goals as goal

pub returns-in-Block-clause-value : goal.returns-in-Block-clause-value
returns-in-Block-clause-value c = λ p live v is.
    plain_is p live v c.in-Block.area _ refl refl refl c.from_one-dims.ensures (subst (λ (d : Datum). IsDatum p live d v) c.in-Block.is is)
