use Rattle.std.proofs.Common.{rules, refl, sym, ap, ◌∙◌}
use Rattle.std.proofs.lemmas.Int.{to_z-of_z}
use mir.Val.{SFits}
use mir.Syntax.{w64}
use Rattle.f3_arithmetic.specs.Turns.{turns_of}
use Rattle.f3_word_cells.proofs.OnTop.{line_kinds}
use Rattle.f3_word_cells.proofs.Amid.{amid_first, amid_pushed}
use Rattle.f3_word_cells.proofs.Lines.{becomes_ahead}
use Rattle.f3_word_control.proofs.Moving.{turns_taken}
use Rattle.f3_word_control.proofs.Lines.{after_at, goes_with, goes}
use Rattle.f3_word_control.proofs.Tops.{turns_on}
use Rattle.f3_word_control.proofs.Does as acts
use Rattle.f3_word_control.proofs.constructs.count_next.Goals as goal

pub returns-in_default-clause-does : goal.returns-in_default-clause-does
returns-in_default-clause-does c = λ p m size t l x told there is st.
    let lead = line_kinds p t l _ told there is in
    let top = turns_on p m x t _ told st _ lead.before in
    absurd (c.in_default.ensures.taken top.0 top.1 top.2)

pub returns-in-Some-turns-clause-does : goal.returns-in-Some-turns-clause-does
returns-in-Some-turns-clause-does c = λ p m size t l x told there is st.
    let fits : SFits w64 c.in-Some.step = search rules in
    let lead = line_kinds p t l _ told there is in
    let top = turns_taken p t m _ x _ c.in-Some.ensures.taken (amid_first p t m _ x _ t.stack st lead.before refl) in
    goes_with p l t m m _ x st top.below _ _ (goes p l t is (λ rest. acts.turns_on p l t rest _ _ _ _ _ top.split (ap turns_of c.in-Some-turns.is))) top.amid
    c.in-Some.ensures.taken.pc (after_at lead.next refl refl) c.go_on_with.ensures tt (sym c.fewer.ensures, sym (to_z-of_z w64 _ fits)) tt

pub returns-in-None-clause-does : goal.returns-in-None-clause-does
returns-in-None-clause-does c = λ p m size t l x told there is st.
    let fits : SFits w64 c.in-Some.step = search rules in
    let lead = line_kinds p t l _ told there is in
    let top = turns_taken p t m _ x _ c.in-Some.ensures.taken (amid_first p t m _ x _ t.stack st lead.before refl) in
    let more = amid_pushed p t m _ _ _ x _ _ _ top.below t.world.store _ _ _ top.amid c.push.ensures tt (refl, sym (to_z-of_z w64 _ fits)) tt in
    becomes_ahead p m m _ _ _ x _ t l _ _ _ c.ahead.result st more (c.push.ensures.pc ∙ c.in-Some.ensures.taken.pc) (after_at lead.far.0 refl refl) size c.ahead.ensures
    (goes p l t is (λ rest. acts.turns_over p l t rest _ _ _ _ top.split (ap turns_of c.in-None.is)))
