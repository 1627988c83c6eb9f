use Rattle.std.proofs.Common.{◌∙◌}
use Rattle.f3_word_values.proofs.Widths.{apply_at}
use Rattle.f3_word_values.proofs.operations.applied.Goals as goal

pub returns : goal.returns
returns c = λ place. (rw c.width.ensures at c.binary.ensures place) ∙ apply_at _ _ _ _ place
