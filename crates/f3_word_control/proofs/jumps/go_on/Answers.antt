use Rattle.std.proofs.Common.{refl}
use Rattle.f3_word_cells.proofs.OnTop.{line_kinds}
use Rattle.f3_word_cells.proofs.Amid.{amid_first}
use Rattle.f3_word_cells.proofs.Lines.{becomes_ahead}
use Rattle.f3_word_control.proofs.Lines.{after_at, goes}
use Rattle.f3_word_control.proofs.Does.{went_on}
use Rattle.f3_word_control.proofs.jumps.go_on.Goals as goal

pub returns-clause-does : goal.returns-clause-does
returns-clause-does c = λ p m size t l x told there is st.
    let lead = line_kinds p t l _ told there is in
    becomes_ahead p m m _ _ _ x _ t l t.stack _ _ c.ahead.result st (amid_first p t m _ x _ t.stack st lead.before refl) refl
    (after_at lead.far.0 refl refl) size c.ahead.ensures (goes p l t is (λ rest. went_on p l t rest _))
