use Rattle.std.proofs.Common.{[], refl, sym, subst}
use Rattle.std.specs.Prelude.{Ok}
use Rattle.f3_code.specs.declared.instruction.Instruction.TheVariants as i
use Rattle.f3_rooms.specs.Laws.{without}
use Rattle.f3_word_cells.specs.States.{datum_blocks}
use Rattle.f3_word_cells.specs.Does.{Becomes}
use Rattle.f3_word_cells.proofs.OnTop.{line_kinds}
use Rattle.f3_word_cells.proofs.Amid.{amid_first}
use Rattle.f3_word_cells.proofs.AtHand.{names_at_hand}
use Rattle.f3_word_cells.proofs.InHand.{amid_without}
use Rattle.f3_word_control.proofs.Moving.{datum_taken}
use Rattle.f3_word_control.proofs.Lines.{goes}
use Rattle.f3_word_control.proofs.Tops.{clean_at, datum_on, selecting_at}
use Rattle.f3_word_control.proofs.Does.{selected_so}
use Rattle.f3_word_control.proofs.Selecting.{selects}
use Rattle.f3_word_control.proofs.constructs.selecting.Goals as goal

pub returns-in_default-clause-does : goal.returns-in_default-clause-does
returns-in_default-clause-does g c = λ p t l x told there is st.
    let m = g.B.Blocks.blocks c.args.heap.now in
    let at = selecting_at p m x t _ told st l (line_kinds p t l _ told there is) in
    let top = datum_on p m x t _ told st at.0 at.2 at.3 in
    absurd (c.in_default.ensures.taken top.0 top.1 top.3)

pub returns-clause-does : goal.returns-clause-does
returns-clause-does g c = λ p t l x told there is st.
    let m = g.B.Blocks.blocks c.args.heap.now in
    let d = c.in-Some.datum in
    let at = selecting_at p m x t _ told st l (line_kinds p t l _ told there is) in
    let top = datum_taken p t m _ x _ c.in-Some.ensures.taken (amid_first p t m _ x _ t.stack st at.3 refl) in
    let gone = amid_without p t m _ _ x _ top.below t.world.store (datum_blocks d) [] top.amid in
    subst (λ n. Becomes p l t (Ok tt) n c.go_on_with.new.self) (sym c.let_go_datum.ensures.given)
    (selects p l t m (without (datum_blocks d) m) _ x st _ _ top.value top.below at.0 at.1 at.2 (goes p l t is (λ rest. selected_so p l t rest _ _ top.split))
    (c.selected_by-state.ensures p m top.value top.is) gone c.in-Some.ensures.taken.pc at.4 at.5
    (names_at_hand p m _ x t at.1 told st at.4 (clean_at p m x t _ told st l i.Selecting _ there is refl)) c.go_on_with.ensures)
