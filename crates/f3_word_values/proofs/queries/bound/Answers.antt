use Rattle.std.proofs.Common.{◌∷◌, rules, refl, ap, ◌∙◌}
use Rattle.std.proofs.lemmas.Int.{to_z-of_z}
use mir.Val.{SFits}
use mir.Syntax.{w64}
use Rattle.f3_meaning_whole.specs.Arithmetic.{constant_value}
use Rattle.f3_meaning_whole.specs.Eval.{asked}
use Rattle.f3_code.specs.State as s
use Rattle.f3_code.specs.State.{placed}
use Rattle.f3_word_cells.specs.Areas.{spans_of}
use Rattle.f3_word_cells.proofs.OnTop.{line_kinds, two_on_top}
use Rattle.f3_word_cells.proofs.Amid.{amid_first}
use Rattle.f3_word_control.proofs.Lines.{after_at}
use Rattle.f3_word_control.proofs.Moving.{scalar_taken, bounds_taken}
use Rattle.f3_word_control.proofs.Tops.{whole_on, bounds_under, below_is}
use Rattle.f3_word_values.proofs.Ending.{finished}
use Rattle.f3_word_values.proofs.Does.{bound_does}
use Rattle.f3_word_values.proofs.queries.bound.Goals as goal

pub returns-in_default-clause-does : goal.returns-in_default-clause-does
returns-in_default-clause-does c = λ p m t l x told there is st.
    let lead = line_kinds p t l _ told there is in
    let top = whole_on p m x t _ told st _ _ lead.3.before lead.2 in
    absurd (c.in_default.ensures.taken top.0 top.1 top.2)

pub returns-in_default-pop_bounds-clause-does : goal.returns-in_default-pop_bounds-clause-does
returns-in_default-pop_bounds-clause-does c = λ p m t l x told there is st.
    let lead = line_kinds p t l _ told there is in
    let two = two_on_top p t _ _ _ told lead.3.before in
    let top = scalar_taken p t m _ x _ c.in-Some.ensures.taken (amid_first p t m _ x _ t.stack st lead.3.before refl) in
    let next = bounds_under p m x t _ _ _ _ _ _ top.amid two.next two.below (below_is top.split two.split) lead.1 two.next_is in
    absurd (c.in_default-pop_bounds.ensures.taken next.0 next.1 next.2)

pub returns-clause-does : goal.returns-clause-does
returns-clause-does c = λ p m t l x told there is st.
    let lead = line_kinds p t l _ told there is in
    let fits : SFits w64 c.number_of.result = search rules in
    let top = scalar_taken p t m _ x _ c.in-Some.ensures.taken (amid_first p t m _ x _ t.stack st lead.3.before refl) in
    let next = bounds_taken p t m _ x _ c.in-Some-pop_bounds.ensures.taken top.amid in
    finished p l t m m _ x st _ next.below _ _ _ is
    ((rw (← c.as_slice.ensures.value) (c.asked.ensures (placed l.place t.here)))
    ∙ ap (λ z. asked c.args.query (spans_of c.in-Some-pop_bounds.dims.items) z (placed l.place t.here)) (to_z-of_z w64 _ fits ∙ c.number_of.ensures))
    (bound_does p l t _ _ _ _ (top.split ∙ ap (λ bs. s.Datum (constant_value c.in-Some.dimension) ∷ bs) next.split))
    next.amid (c.in-Some-pop_bounds.ensures.taken.pc ∙ c.in-Some.ensures.taken.pc) (after_at lead.3.next refl refl) c.finish.ensures.finishes
