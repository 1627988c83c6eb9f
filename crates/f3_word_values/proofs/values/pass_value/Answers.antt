use Rattle.std.proofs.Common.{refl}
use Rattle.f3_word_cells.proofs.OnTop.{line_kinds}
use Rattle.f3_word_cells.proofs.Amid.{amid_first}
use Rattle.f3_word_control.proofs.Moving.{datum_taken}
use Rattle.f3_word_control.proofs.Lines.{after_at, goes_with}
use Rattle.f3_word_control.proofs.Tops.{datum_on}
use Rattle.f3_word_values.proofs.Does.{passed_so}
use Rattle.f3_word_values.proofs.values.pass_value.Goals as goal

pub returns-in_default-clause-does : goal.returns-in_default-clause-does
returns-in_default-clause-does c = λ p m t l x told there is st.
    let lead = line_kinds p t l _ told there is in
    let top = datum_on p m x t _ told st _ _ lead.1.before in
    absurd (c.in_default.ensures.taken top.0 top.1 top.3)

pub returns-clause-does : goal.returns-clause-does
returns-clause-does c = λ p m t l x told there is st.
    let lead = line_kinds p t l _ told there is in
    let top = datum_taken p t m _ x _ c.in-Some.ensures.taken (amid_first p t m _ x _ t.stack st lead.1.before refl) in
    goes_with p l t m m _ x st top.below _ _ (passed_so p l t _ _ top.split _ is) top.amid c.in-Some.ensures.taken.pc
    (after_at lead.1.next refl refl) c.go_on_with.ensures tt (refl, top.is) top.known
