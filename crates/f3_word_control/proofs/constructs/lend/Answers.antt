use Rattle.std.proofs.Common.{refl, ap, ◌++◌, [], ◌∷◌, ◌∙◌}
use Rattle.f3_meaning_whole.specs.Act.{lending}
use Rattle.f3_word_cells.proofs.OnTop.{line_kinds, one_on_top, of_object}
use Rattle.f3_word_cells.proofs.Amid.{amid_first}
use Rattle.f3_word_control.proofs.Lines.{after_at, advances_in, goes, lending_so}
use Rattle.f3_word_control.proofs.Does.{lent_so}
use Rattle.f3_word_control.proofs.constructs.lend.Goals as goal

pub returns-clause-does : goal.returns-clause-does
returns-clause-does c = λ p m t l x told there is st.
    let lead = line_kinds p t l _ told there is in
    let top = one_on_top p t _ _ told lead.1.before in
    let r = of_object p.types.items lead.0 top.cell top.is in
    advances_in p l t m m _ x st t.stack (λ h. h) (lending (r.0 ∷ []) t.here)
    (goes p l t is (λ rest. lent_so p l t rest r.0 top.below (top.split ∙ ap (λ b. b ∷ top.below) r.1))) (amid_first p t m _ x _ t.stack st lead.1.before refl) refl
    (after_at lead.1.next refl refl) refl (λ y ns here. lending_so p y ns _ _ here ((r.0 ∷ []) ++ t.here.lent)) c.advance.ensures.is
