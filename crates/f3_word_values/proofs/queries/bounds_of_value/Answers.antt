use Rattle.std.proofs.Common.{[], refl, ap, sym, subst, ◌∙◌}
use Rattle.std.specs.Prelude.{Ok}
use Rattle.f3_rooms.specs.Laws.{without}
use Rattle.f3_word_cells.specs.Areas.{spans_of}
use Rattle.f3_word_cells.specs.States.{datum_blocks}
use Rattle.f3_word_cells.specs.Does.{Becomes}
use Rattle.f3_word_cells.proofs.OnTop.{line_kinds}
use Rattle.f3_word_cells.proofs.Amid.{amid_first}
use Rattle.f3_word_cells.proofs.InHand.{amid_without}
use Rattle.f3_word_control.proofs.Moving.{datum_taken}
use Rattle.f3_word_control.proofs.Lines.{after_at, goes_with, goes}
use Rattle.f3_word_control.proofs.Tops.{datum_on}
use Rattle.f3_word_values.proofs.Does.{bounds_so}
use Rattle.f3_word_values.proofs.Plain.{datum_spans}
use Rattle.f3_word_values.proofs.queries.bounds_of_value.Goals as goal

pub returns-in_default-clause-does : goal.returns-in_default-clause-does
returns-in_default-clause-does g c = λ p t l x told there is st.
    let lead = line_kinds p t l _ told there is in
    let top = datum_on p (g.B.Blocks.blocks c.args.heap.now) x t _ told st _ _ lead.2.before in
    absurd (c.in_default.ensures.taken top.0 top.1 top.3)

pub returns-clause-does : goal.returns-clause-does
returns-clause-does g c = λ p t l x told there is st.
    let m = g.B.Blocks.blocks c.args.heap.now in
    let d = c.in-Some.datum in
    let lead = line_kinds p t l _ told there is in
    let top = datum_taken p t m _ x _ c.in-Some.ensures.taken (amid_first p t m _ x _ t.stack st lead.2.before refl) in
    let gone = amid_without p t m _ _ x _ top.below t.world.store (datum_blocks d) [] top.amid in
    subst (λ n. Becomes p l t (Ok tt) n c.go_on_with.new.self) (sym c.bounds_taken-dims.ensures.given)
    (goes_with p l t m (without (datum_blocks d) m) _ x st top.below _ _ (goes p l t is (λ rest. bounds_so p l t rest _ _ top.split)) gone
    c.in-Some.ensures.taken.pc (after_at lead.2.next refl refl) c.go_on_with.ensures tt
    (datum_spans p m d top.value top.is ∙ ap spans_of (sym c.bounds_taken-dims.ensures.bounds)) tt)
