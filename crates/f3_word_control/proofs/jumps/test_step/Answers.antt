use Rattle.std.proofs.Common.{refl, sym, ◌∙◌}
use Rattle.f3_word_cells.proofs.OnTop.{line_kinds}
use Rattle.f3_word_cells.proofs.Amid.{amid_first}
use Rattle.f3_word_control.proofs.Moving.{scalar_taken}
use Rattle.f3_word_control.proofs.Lines.{after_at, stops, goes_with, goes}
use Rattle.f3_word_control.proofs.Tops.{whole_on}
use Rattle.f3_word_control.proofs.Does.{step_fails, step_stays}
use Rattle.f3_word_control.proofs.jumps.test_step.Goals as goal

pub returns-in_default-clause-does : goal.returns-in_default-clause-does
returns-in_default-clause-does c = λ p m t l x told there is st.
    let lead = line_kinds p t l _ told there is in
    let top = whole_on p m x t _ told st _ _ lead.2.before lead.1 in
    absurd (c.in_default.ensures.taken top.0 top.1 top.2)

pub returns-then-is_zero-clause-does : goal.returns-then-is_zero-clause-does
returns-then-is_zero-clause-does c = λ p m t l x told there is st.
    let lead = line_kinds p t l _ told there is in
    let top = scalar_taken p t m _ x _ c.in-Some.ensures.taken (amid_first p t m _ x _ t.stack st lead.2.before refl) in
    stops p l t is (λ rest. step_fails p l t rest _ _ top.split (sym c.is_zero.ensures ∙ c.if-is_zero.true))

pub returns-clause-does : goal.returns-clause-does
returns-clause-does c = λ p m t l x told there is st.
    let lead = line_kinds p t l _ told there is in
    let top = scalar_taken p t m _ x _ c.in-Some.ensures.taken (amid_first p t m _ x _ t.stack st lead.2.before refl) in
    goes_with p l t m m _ x st top.below _ _ (goes p l t is (λ rest. step_stays p l t rest _ _ top.split (sym c.is_zero.ensures ∙ c.if-is_zero.false))) top.amid
    c.in-Some.ensures.taken.pc (after_at lead.2.next refl refl) c.go_on_with.ensures tt refl tt
