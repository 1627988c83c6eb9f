use Rattle.std.proofs.Common.{[], sym, subst, refl}
use Rattle.std.specs.Prelude.{Ok}
use Rattle.f3_rooms.specs.Laws.{without}
use Rattle.f3_word_cells.specs.States.{cell_blocks}
use Rattle.f3_word_cells.specs.Does.{Becomes}
use Rattle.f3_word_cells.proofs.OnTop.{line_kinds, one_on_top}
use Rattle.f3_word_cells.proofs.Amid.{amid_first, amid_popped}
use Rattle.f3_word_cells.proofs.InHand.{amid_without}
use Rattle.f3_word_control.proofs.Lines.{after_at, advances, goes}
use Rattle.f3_word_control.proofs.Tops.{drop_flat, no_top}
use Rattle.f3_word_control.proofs.Does.{dropped}
use Rattle.f3_word_control.proofs.dropping.drop_top.Goals as goal

pub returns-in_default-clause-does : goal.returns-in_default-clause-does
returns-in_default-clause-does g c = λ p t l x told there is st.
    let lead = line_kinds p t l _ told there is in
    absurd (no_top p (g.B.Blocks.blocks c.args.heap.now) x t _ told st lead.0 lead.1.rest lead.1.before c.in_default.ensures.0)

pub returns-clause-does : goal.returns-clause-does
returns-clause-does g c = λ p t l x told there is st.
    let m = g.B.Blocks.blocks c.args.heap.now in
    let old = c.args.state.now in
    let cell = c.in-Some.cell in
    let lead = line_kinds p t l _ told there is in
    let top = one_on_top p t lead.0 lead.1.rest told lead.1.before in
    let flat = drop_flat p m x t old told st l lead.0 lead.1.rest top.cell there is lead.1.before top.is in
    let amid = amid_popped p t m old old _ x lead.0 lead.1.rest top.cell top.below t.world.store [] cell (amid_first p t m old x _ _ st lead.1.before top.split)
    c.in-Some.ensures flat in
    let gone = amid_without p t m old _ x lead.1.rest top.below t.world.store (cell_blocks cell) [] amid.2 in
    subst (λ n. Becomes p l t (Ok tt) n c.advance.new.self) (sym c.let_go.ensures.given)
    (advances p l t m (without (cell_blocks cell) m) old x st top.below (goes p l t is (λ rest. dropped p l t rest _ _ top.split)) gone c.in-Some.ensures.pc
    (after_at lead.1.next refl refl) c.advance.ensures)
