use Rattle.std.proofs.Common.{refl, sym, ◌∙◌}
use Rattle.f3_word_cells.proofs.OnTop.{line_kinds}
use Rattle.f3_word_cells.proofs.Amid.{amid_first}
use Rattle.f3_word_cells.proofs.Lines.{becomes_ahead}
use Rattle.f3_word_control.proofs.Moving.{scalar_taken}
use Rattle.f3_word_control.proofs.Lines.{after_at, advances, goes}
use Rattle.f3_word_control.proofs.Tops.{scalar_on}
use Rattle.f3_word_control.proofs.Does.{skips_not, skips_if_false}
use Rattle.f3_word_control.proofs.jumps.skip_if_false.Goals as goal

pub returns-in_default-clause-does : goal.returns-in_default-clause-does
returns-in_default-clause-does c = λ p m size t l x told there is st.
    let lead = line_kinds p t l _ told there is in
    let top = scalar_on p m x t _ told st _ _ lead.before refl refl in
    absurd (c.in_default.ensures.taken top.0 top.1 top.2)

pub returns-then-truth_of-clause-does : goal.returns-then-truth_of-clause-does
returns-then-truth_of-clause-does c = λ p m size t l x told there is st.
    let lead = line_kinds p t l _ told there is in
    let top = scalar_taken p t m _ x _ c.in-Some.ensures.taken (amid_first p t m _ x _ t.stack st lead.before refl) in
    advances p l t m m _ x st top.below (goes p l t is (λ rest. skips_not p l t rest _ _ _ top.split (sym c.truth_of.ensures ∙ c.if-truth_of.true))) top.amid
    c.in-Some.ensures.taken.pc (after_at lead.next refl refl) c.advance.ensures

pub returns-else-truth_of-clause-does : goal.returns-else-truth_of-clause-does
returns-else-truth_of-clause-does c = λ p m size t l x told there is st.
    let lead = line_kinds p t l _ told there is in
    let top = scalar_taken p t m _ x _ c.in-Some.ensures.taken (amid_first p t m _ x _ t.stack st lead.before refl) in
    becomes_ahead p m m _ _ _ x _ t l top.below _ _ c.ahead.result st top.amid c.in-Some.ensures.taken.pc (after_at lead.far.0 refl refl) size c.ahead.ensures
    (goes p l t is (λ rest. skips_if_false p l t rest _ _ _ top.split (sym c.truth_of.ensures ∙ c.if-truth_of.false)))
