use Rattle.std.proofs.Common.{refl, drop}
use Rattle.f3_word_cells.proofs.OnTop.{line_kinds}
use Rattle.f3_word_cells.proofs.Amid.{amid_first}
use Rattle.f3_word_control.proofs.Lines.{after_at, advances_in, goes, lending_so}
use Rattle.f3_word_control.proofs.Does.{unlent_so, lending_less}
use Rattle.f3_word_control.proofs.constructs.unlend.Goals as goal

pub returns-clause-does : goal.returns-clause-does
returns-clause-does c = λ p m t l x told there is st.
    let lead = line_kinds p t l _ told there is in
    advances_in p l t m m _ x st t.stack (λ h. h) (lending_less t.here) (goes p l t is (λ rest. unlent_so p l t rest)) (amid_first p t m _ x _ t.stack st lead.before refl) refl
    (after_at lead.next refl refl) refl (λ y ns here. lending_so p y ns _ _ here (drop 1 t.here.lent)) c.advance.ensures.is
