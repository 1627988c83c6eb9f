use Rattle.std.proofs.Common.{refl, rules}
use Rattle.f3_cells.proofs.Steps.{is_stuck, went_on, went_ahead_with}
use Rattle.std.proofs.lemmas.Int.{to_z-of_z}
use mir.Val.{SFits}
use mir.Syntax.{w64}
use Rattle.f3_control_steps.proofs.constructs.count_next.Goals as goal

pub returns-in_default : goal.returns-in_default
returns-in_default c = λ p limit g code v here size. is_stuck (c.in_default.ensures p _)

pub returns-in-Some-turns : goal.returns-in-Some-turns
returns-in-Some-turns c = λ p limit g code v here size. let fits : SFits w64 c.in-Some.step = search rules in went_on code here.place p c.go_on_with.ensures (rw (c.in-Some.ensures p, c.in-Some-turns.is, c.fewer.ensures, to_z-of_z w64 _ fits) refl)

pub returns-in-None : goal.returns-in-None
returns-in-None c = λ p limit g code v here size. let fits : SFits w64 c.in-Some.step = search rules in went_ahead_with code here.place p size c.ahead_with.ensures (rw (c.in-Some.ensures p, c.in-None.is, to_z-of_z w64 _ fits) refl)
