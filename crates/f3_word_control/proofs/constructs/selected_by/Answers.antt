use Rattle.std.proofs.Common.{subst}
use Rattle.f3_word_cells.specs.declared.cell.Datum.{Datum}
use Rattle.f3_word_cells.specs.Areas.{IsDatum}
use Rattle.f3_word_control.proofs.Selecting.{none_selected}
use Rattle.f3_word_control.proofs.constructs.selected_by.Goals as goal

pub returns-in-Block : goal.returns-in-Block
returns-in-Block c = λ p m v is.
    let there = subst (λ (d : Datum). IsDatum p m d v) c.in-Block.is is in none_selected p m _ v there.0 there.1
