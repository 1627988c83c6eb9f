use Rattle.f3_word_needs.proofs.Cells.{cells_are_few}
use Rattle.f3_word_needs.proofs.laws.cells_are_few.Goals as goal

pub returns : goal.returns
returns c = cells_are_few
