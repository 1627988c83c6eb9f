use Rattle.std.proofs.Common.{refl, rules}
use Rattle.f3_cells.proofs.Steps.{is_stuck, went_on}
use Rattle.std.proofs.lemmas.Int.{to_z-of_z}
use mir.Val.{SFits}
use mir.Syntax.{w64}
use Rattle.f3_control_steps.proofs.values.dimension.Goals as goal

pub returns-in_default : goal.returns-in_default
returns-in_default c = λ p limit g code v here. is_stuck (c.in_default.ensures p _)

pub returns-in_default-pop_datum : goal.returns-in_default-pop_datum
returns-in_default-pop_datum c = λ p limit g code v here. rw (c.in-Some.ensures p) (is_stuck (c.in_default-pop_datum.ensures p _))

pub returns : goal.returns
returns c = λ p limit g code v here. let high : SFits w64 c.number_of-upper.result = search rules in let low : SFits w64 c.number_of-lower.result = search rules in went_on code here.place p c.go_on_with.ensures (rw (c.in-Some.ensures p, c.in-Some-pop_datum.ensures p, c.turns.ensures, to_z-of_z w64 _ high, to_z-of_z w64 _ low, c.number_of-upper.ensures, c.number_of-lower.ensures) refl)
