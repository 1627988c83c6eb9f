use Rattle.std.proofs.Common.{sym, ◌∙◌}
use Rattle.f3_lex.proofs.Broken.{broken_here, broken_later, broken_nowhere}
use Rattle.f3_lex.proofs.fault.first_broken.Goals as goal

pub returns-in-Some : goal.returns-in-Some
returns-in-Some c = sym (broken_here _ _ _ _ c.loop-token-test.true _ _ c.broken_by.ensures c.text.ensures _ c.in-Some.is) ∙ c.loop-token.invariant

pub loop-token-preserved : goal.loop-token-preserved
loop-token-preserved c = sym (broken_later _ _ _ _ c.loop-token-test.true _ _ c.broken_by.ensures c.text.ensures c.in_default.is) ∙ c.loop-token.invariant

pub returns : goal.returns
returns c = sym (broken_nowhere _ _ _ c.loop-token-test.false) ∙ c.loop-token.invariant
