use Rattle.std.proofs.Common.{◌∷◌, refl, ap, ◌∙◌}
use Rattle.f3_meaning_whole.specs.Act.{at}
use Rattle.f3_code.specs.State as s
use Rattle.f3_cells.specs.Cells.{flow_of}
use Rattle.f3_word_cells.proofs.OnTop.{line_kinds}
use Rattle.f3_word_cells.proofs.Amid.{amid_first}
use Rattle.f3_word_cells.proofs.Lines.{becomes_ahead}
use Rattle.f3_word_control.proofs.Moving.{going_taken}
use Rattle.f3_word_control.proofs.Lines.{after_at, advances_in, goes, at_place}
use Rattle.f3_word_control.proofs.Tops.{going_on}
use Rattle.f3_word_control.proofs.Does.{departs_onward, departs_cycled, departs_left, departs_returned}
use Rattle.f3_word_control.proofs.constructs.depart.Goals as goal

pub returns-in_default-clause-does : goal.returns-in_default-clause-does
returns-in_default-clause-does c = λ p m size t l x told there is st.
    let lead = line_kinds p t l _ told there is in
    let top = going_on p m x t _ told st _ lead.before in
    absurd (c.in_default.ensures.taken top.0 top.1 top.2)

pub returns-in-Onward-clause-does : goal.returns-in-Onward-clause-does
returns-in-Onward-clause-does c = λ p m size t l x told there is st.
    let lead = line_kinds p t l _ told there is in
    let top = going_taken p t m _ x _ c.in-Some.ensures.taken (amid_first p t m _ x _ t.stack st lead.before refl) in
    becomes_ahead p m m _ _ _ x _ t l top.below _ _ c.ahead.result st top.amid c.in-Some.ensures.taken.pc (after_at lead.far.0 refl refl) size c.ahead.ensures
    (goes p l t is (λ rest. departs_onward p l t rest _ _ _ (top.split ∙ ap (λ f. s.Going (flow_of f) ∷ top.below) c.in-Onward.is)))

pub returns-in-Cycled-clause-does : goal.returns-in-Cycled-clause-does
returns-in-Cycled-clause-does c = λ p m size t l x told there is st.
    let lead = line_kinds p t l _ told there is in
    let top = going_taken p t m _ x _ c.in-Some.ensures.taken (amid_first p t m _ x _ t.stack st lead.before refl) in
    becomes_ahead p m m _ _ _ x _ t l top.below _ _ c.ahead-in-Cycled.result st top.amid c.in-Some.ensures.taken.pc (after_at lead.far.1.0 refl refl) size c.ahead-in-Cycled.ensures
    (goes p l t is (λ rest. departs_cycled p l t rest _ _ _ (top.split ∙ ap (λ f. s.Going (flow_of f) ∷ top.below) c.in-Cycled.is)))

pub returns-in-Left-clause-does : goal.returns-in-Left-clause-does
returns-in-Left-clause-does c = λ p m size t l x told there is st.
    let lead = line_kinds p t l _ told there is in
    let top = going_taken p t m _ x _ c.in-Some.ensures.taken (amid_first p t m _ x _ t.stack st lead.before refl) in
    becomes_ahead p m m _ _ _ x _ t l top.below _ _ c.ahead-in-Left.result st top.amid c.in-Some.ensures.taken.pc (after_at lead.far.1.1.0 refl refl) size c.ahead-in-Left.ensures
    (goes p l t is (λ rest. departs_left p l t rest _ _ _ (top.split ∙ ap (λ f. s.Going (flow_of f) ∷ top.below) c.in-Left.is)))

pub returns-in-Returned-clause-does : goal.returns-in-Returned-clause-does
returns-in-Returned-clause-does c = λ p m size t l x told there is st.
    let lead = line_kinds p t l _ told there is in
    let top = going_taken p t m _ x _ c.in-Some.ensures.taken (amid_first p t m _ x _ t.stack st lead.before refl) in
    advances_in p l t m m _ x st top.below (λ h. record h { place = c.in-Returned.place }) (at c.in-Returned.place t.here)
    (goes p l t is (λ rest. departs_returned p l t rest _ _ _ _ (top.split ∙ ap (λ f. s.Going (flow_of f) ∷ top.below) c.in-Returned.is))) top.amid
    c.in-Some.ensures.taken.pc (after_at lead.next refl refl) refl (λ y ns here. at_place p y ns _ _ here _ _ refl) c.advance.ensures.is
