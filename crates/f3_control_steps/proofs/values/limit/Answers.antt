use Rattle.std.proofs.Common.{refl, rules}
use Rattle.f3_cells.proofs.Steps.{is_stuck, went_on}
use Rattle.std.proofs.lemmas.Int.{to_z-of_z}
use mir.Val.{SFits}
use mir.Syntax.{w64}
use Rattle.f3_control_steps.proofs.values.limit.Goals as goal

pub returns-in_default : goal.returns-in_default
returns-in_default c = λ p limit g code v here. is_stuck (c.in_default.ensures p _)

pub returns : goal.returns
returns c = λ p limit g code v here. let fits : SFits w64 c.number_of-number.result = search rules in went_on code here.place p c.go_on_with.ensures (rw (c.in-Some.ensures p, to_z-of_z w64 _ fits, c.number_of-number.ensures) refl)
