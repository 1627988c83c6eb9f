use Rattle.std.proofs.Common.{refl}
use Rattle.f3_word_cells.proofs.OnTop.{line_kinds}
use Rattle.f3_word_cells.proofs.Amid.{amid_first}
use Rattle.f3_word_control.proofs.Lines.{after_at, advances, goes}
use Rattle.f3_word_control.proofs.Does.{discarded}
use Rattle.f3_word_control.proofs.constructs.discard.Goals as goal

pub returns-clause-does : goal.returns-clause-does
returns-clause-does c = λ p m t l x told there is st.
    let lead = line_kinds p t l _ told there is in
    advances p l t m m _ x st t.stack (goes p l t is (λ rest. discarded p l t rest)) (amid_first p t m _ x _ t.stack st lead.before refl) refl (after_at lead.next refl refl) c.advance.ensures
