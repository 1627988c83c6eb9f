use Rattle.std.proofs.Common.{sym, ◌∙◌}
use Rattle.f3_text.proofs.AlongLines.{text_end, text_nothing, blank_end, blank_more, not_blank}
use Rattle.f3_text.proofs.lines.only_blanks.Goals as goal

pub returns-then-ends_text : goal.returns-then-ends_text
returns-then-ends_text c = sym (blank_end _ (text_end _ _ _ _ c.in-Some.ensures.letters (sym c.if-ends_text.ensures))) ∙ c.loop-letter.invariant

pub returns-then-not-is_blank : goal.returns-then-not-is_blank
returns-then-not-is_blank c = sym (not_blank _ _ _ _ c.in-Some.ensures.letters (sym c.if-ends_text.ensures) (sym c.if-not-is_blank.ensures)) ∙ c.loop-letter.invariant

pub loop-letter-preserved : goal.loop-letter-preserved
loop-letter-preserved c = rw c.after-within.ensures (blank_more _ _ _ _ c.in-Some.ensures.letters (sym c.if-ends_text.ensures) (sym c.if-not-is_blank.ensures) ∙ c.loop-letter.invariant)

pub returns : goal.returns
returns c = sym (blank_end _ (text_nothing _ _ c.in_default.ensures)) ∙ c.loop-letter.invariant
