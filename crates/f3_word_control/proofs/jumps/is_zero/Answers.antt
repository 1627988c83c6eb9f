use Rattle.f3_meaning_whole.specs.Arithmetic.{is_zero}
use Rattle.std.proofs.Common.{ap, rules, ◌∙◌}
use Rattle.f3_word_control.proofs.Zeros.{zero_test}
use mir.Val.{SFits}
use mir.Syntax.{w64}
use Rattle.f3_word_control.proofs.jumps.is_zero.Goals as goal

pub returns : goal.returns
returns c = let fits : SFits w64 c.number_of.result = search rules in zero_test _ fits ∙ ap is_zero c.number_of.ensures
