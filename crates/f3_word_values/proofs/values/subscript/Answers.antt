use Rattle.std.proofs.Common.{rules, refl, ap, sym, ◌∙◌}
use Rattle.std.proofs.lemmas.Int.{to_z-of_z}
use mir.Val.{SFits}
use mir.Syntax.{w64}
use Rattle.f3_meaning_whole.specs.Act as act
use Rattle.f3_word_cells.proofs.OnTop.{line_kinds}
use Rattle.f3_word_cells.proofs.Amid.{amid_first}
use Rattle.f3_word_control.proofs.Moving.{scalar_taken}
use Rattle.f3_word_control.proofs.Lines.{after_at, goes_with, goes}
use Rattle.f3_word_control.proofs.Tops.{whole_on}
use Rattle.f3_word_values.proofs.Does.{subscript_so}
use Rattle.f3_word_values.proofs.values.subscript.Goals as goal

pub returns-in_default-clause-does : goal.returns-in_default-clause-does
returns-in_default-clause-does c = λ p m t l x told there is st.
    let lead = line_kinds p t l _ told there is in
    let top = whole_on p m x t _ told st _ _ lead.2.before lead.1 in
    absurd (c.in_default.ensures.taken top.0 top.1 top.2)

pub returns-clause-does : goal.returns-clause-does
returns-clause-does c = λ p m t l x told there is st.
    let lead = line_kinds p t l _ told there is in
    let fits : SFits w64 c.number_of.result = search rules in
    let top = scalar_taken p t m _ x _ c.in-Some.ensures.taken (amid_first p t m _ x _ t.stack st lead.2.before refl) in
    goes_with p l t m m _ x st top.below _ _ (goes p l t is (λ rest. subscript_so p l t rest _ _ top.split)) top.amid c.in-Some.ensures.taken.pc
    (after_at lead.2.next refl refl) c.go_on_with.ensures tt (ap (λ z. act.At z) (sym (to_z-of_z w64 _ fits ∙ c.number_of.ensures))) tt
