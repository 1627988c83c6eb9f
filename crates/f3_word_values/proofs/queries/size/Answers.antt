use Rattle.f3_program.specs.declared.declarations.Base.TheVariants.{Integer}
use Rattle.f3_meaning_whole.specs.Value.{Number, count}
use Rattle.f3_meaning_whole.specs.Arithmetic.{converted}
use Rattle.f3_code.specs.State.{placed}
use Rattle.f3_word_cells.specs.Areas.{spans_of}
use Rattle.std.proofs.Common.{pos, refl}
use Rattle.f3_word_cells.proofs.OnTop.{line_kinds, one_on_top}
use Rattle.f3_word_cells.proofs.Amid.{amid_first}
use Rattle.f3_word_control.proofs.Lines.{after_at}
use Rattle.f3_word_control.proofs.Moving.{bounds_taken}
use Rattle.f3_word_control.proofs.Tops.{bounds_under}
use Rattle.f3_word_values.proofs.Ending.{finished}
use Rattle.f3_word_values.proofs.Does.{size_does}
use Rattle.f3_word_values.proofs.queries.size.Goals as goal

pub returns-in_default-clause-does : goal.returns-in_default-clause-does
returns-in_default-clause-does c = λ p m t l x told there is st.
    let lead = line_kinds p t l _ told there is in
    let one = one_on_top p t _ _ told lead.1.before in
    let top = bounds_under p m x t _ _ _ _ _ _ (amid_first p t m _ x _ t.stack st lead.1.before refl) one.cell one.below one.split lead.0 one.is in
    absurd (c.in_default.ensures.taken top.0 top.1 top.2)

pub returns-clause-does : goal.returns-clause-does
returns-clause-does c = λ p m t l x told there is st.
    let lead = line_kinds p t l _ told there is in
    let top = bounds_taken p t m _ x _ c.in-Some.ensures.taken (amid_first p t m _ x _ t.stack st lead.1.before refl) in
    finished p l t m m _ x st _ top.below _ _
    (converted Integer (Number (pos (count (spans_of c.in-Some.dims.items)))) (placed l.place t.here).place) is (rw (← c.as_slice.ensures.value) (c.size_of.ensures _)) (size_does p l t _ _ top.split) top.amid c.in-Some.ensures.taken.pc
    (after_at lead.1.next refl refl) c.finish.ensures.finishes
