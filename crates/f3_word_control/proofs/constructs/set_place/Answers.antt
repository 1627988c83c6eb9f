use Rattle.std.proofs.Common.{refl}
use Rattle.f3_code.specs.State.{placed}
use Rattle.f3_word_cells.proofs.OnTop.{line_kinds}
use Rattle.f3_word_cells.proofs.Amid.{amid_first}
use Rattle.f3_word_control.proofs.Lines.{after_at, advances_in, goes, at_place}
use Rattle.f3_word_control.proofs.Does.{placed_so}
use Rattle.f3_word_control.proofs.constructs.set_place.Goals as goal

pub returns-clause-does : goal.returns-clause-does
returns-clause-does c = λ p m t l x told there is place st.
    let lead = line_kinds p t l _ told there is in
    advances_in p l t m m _ x st t.stack (λ h. record h { place = c.args.place }) (placed l.place t.here) (goes p l t is (λ rest. placed_so p l t rest)) (amid_first p t m _ x _ t.stack st lead.before refl) refl
    (after_at lead.next refl refl) refl (λ y ns here. at_place p y ns _ _ here _ _ place) c.advance.ensures.is
