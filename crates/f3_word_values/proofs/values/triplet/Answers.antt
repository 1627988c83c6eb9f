use Rattle.std.proofs.Common.{◌∷◌, rules, refl, ap, sym, ◌∙◌}
use Rattle.std.proofs.lemmas.Int.{to_z-of_z}
use mir.Val.{SFits}
use mir.Syntax.{w64}
use Rattle.f3_meaning_whole.specs.Act as act
use Rattle.f3_meaning_whole.specs.Arithmetic.{constant_value}
use Rattle.f3_code.specs.State as s
use Rattle.f3_word_cells.proofs.OnTop.{line_kinds, three_on_top}
use Rattle.f3_word_cells.proofs.Amid.{amid_first}
use Rattle.f3_word_control.proofs.Moving.{scalar_taken, bound_taken}
use Rattle.f3_word_control.proofs.Lines.{after_at, goes_with, goes}
use Rattle.f3_word_control.proofs.Tops.{whole_on, bound_under, below_is}
use Rattle.f3_word_values.proofs.Does.{triplet_so}
use Rattle.f3_word_values.proofs.values.triplet.Goals as goal

pub returns-in_default-clause-does : goal.returns-in_default-clause-does
returns-in_default-clause-does c = λ p m t l x told there is st.
    let lead = line_kinds p t l _ told there is in
    let top = whole_on p m x t _ told st _ _ lead.2.before lead.1 in
    absurd (c.in_default.ensures.taken top.0 top.1 top.2)

pub returns-in_default-pop_bound-clause-does : goal.returns-in_default-pop_bound-clause-does
returns-in_default-pop_bound-clause-does c = λ p m t l x told there is st.
    let lead = line_kinds p t l _ told there is in
    let three = three_on_top p t _ _ _ _ told lead.2.before in
    let top = scalar_taken p t m _ x _ c.in-Some.ensures.taken (amid_first p t m _ x _ t.stack st lead.2.before refl) in
    let next = bound_under p m x t _ _ _ _ _ _ top.amid three.next (three.third ∷ three.below) (below_is top.split three.split) three.next_is in
    absurd (c.in_default-pop_bound.ensures.taken next.0 next.1 next.2)

pub returns-in_default-pop_bound-2-clause-does : goal.returns-in_default-pop_bound-2-clause-does
returns-in_default-pop_bound-2-clause-does c = λ p m t l x told there is st.
    let lead = line_kinds p t l _ told there is in
    let three = three_on_top p t _ _ _ _ told lead.2.before in
    let top = scalar_taken p t m _ x _ c.in-Some.ensures.taken (amid_first p t m _ x _ t.stack st lead.2.before refl) in
    let second = bound_taken p t m _ x _ c.in-Some-pop_bound.ensures.taken top.amid in
    let next = bound_under p m x t _ _ _ _ _ _ second.amid three.third three.below (below_is second.split (below_is top.split three.split)) three.third_is in
    absurd (c.in_default-pop_bound-2.ensures.taken next.0 next.1 next.2)

pub returns-clause-does : goal.returns-clause-does
returns-clause-does c = λ p m t l x told there is st.
    let lead = line_kinds p t l _ told there is in
    let fits : SFits w64 c.number_of.result = search rules in
    let top = scalar_taken p t m _ x _ c.in-Some.ensures.taken (amid_first p t m _ x _ t.stack st lead.2.before refl) in
    let second = bound_taken p t m _ x _ c.in-Some-pop_bound.ensures.taken top.amid in
    let third = bound_taken p t m _ x _ c.in-Some-pop_bound-2.ensures.taken second.amid in
    goes_with p l t m m _ x st third.below _ _ (goes p l t is (λ rest. triplet_so p l t rest _ _ _ _
    (top.split ∙ ap (λ bs. s.Datum (constant_value c.in-Some.step) ∷ bs) (second.split ∙ ap (λ bs. s.Bound c.in-Some-pop_bound.upper ∷ bs) third.split))))
    third.amid (c.in-Some-pop_bound-2.ensures.taken.pc ∙ c.in-Some-pop_bound.ensures.taken.pc ∙ c.in-Some.ensures.taken.pc)
    (after_at lead.2.next refl refl) c.go_on_with.ensures tt
    (ap (λ z. act.Range c.in-Some-pop_bound-2.lower c.in-Some-pop_bound.upper z) (sym (to_z-of_z w64 _ fits ∙ c.number_of.ensures))) tt
