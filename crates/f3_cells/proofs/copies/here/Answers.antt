use Rattle.std.proofs.Common.{refl}
use Rattle.f3_cells.proofs.copies.here.Goals as goal

pub returns : goal.returns
returns c = λ p. rw (c.in_ok-names.ensures, c.in_ok-selected.ensures, c.in_ok-lent.ensures, c.deref.ensures.value) refl
