use Rattle.std.proofs.Common.{refl}
use Rattle.f3_control_steps.proofs.constructs.within_selection.Goals as goal

pub returns : goal.returns
returns c = λ p. rw (c.in_ok-names.ensures, c.in_ok-lent.ensures, c.deref.ensures.value) refl
