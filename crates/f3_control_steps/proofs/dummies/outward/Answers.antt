use Rattle.f3_meaning_whole.specs.Act.{at}
use Rattle.std.proofs.Common.{refl, ap}
use Rattle.f3_cells.proofs.Steps.{is_stuck, went_on}
use Rattle.f3_control_steps.proofs.dummies.outward.Goals as goal

pub returns-in_default : goal.returns-in_default
returns-in_default c = λ p limit g code v here. rw (c.in_default.ensures p) (is_stuck refl)

pub returns : goal.returns
returns c = λ p limit g code v here. went_on code here.place p c.go_on_with.ensures (rw (c.in-Some.ensures p, c.replace.ensures.after, ap (at c.in-Some.frame.now.caller) (c.in_ok-outer.ensures p), c.in_ok-objects.ensures, c.deref.ensures.value) refl)
