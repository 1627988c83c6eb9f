use Rattle.std.proofs.Common.{[], ◌∙◌, ◌++◌, arith, refl}
use Rattle.f3_rooms.proofs.Framing.{times_append}
use Rattle.f3_word_cells.specs.States.{cell_blocks}
use Rattle.f3_word_cells.proofs.OnTop.{line_kinds, two_on_top}
use Rattle.f3_word_cells.proofs.Amid.{amid_first, amid_popped, amid_pushed}
use Rattle.f3_word_control.proofs.Moving.{in_order}
use Rattle.f3_word_control.proofs.Lines.{after_at, goes_with, goes}
use Rattle.f3_word_control.proofs.Tops.{swap_flat}
use Rattle.f3_word_control.proofs.Does.{swapped}
use Rattle.f3_word_control.proofs.jumps.swap.Goals as goal

pub returns-clause-does : goal.returns-clause-does
returns-clause-does c = λ p m t l x told there is st.
    let old = c.args.state.now in
    let a = c.in-Some.first in
    let b = c.in-Some-pop.second in
    let lead = line_kinds p t l _ told there is in
    let by = lead.2 in
    let top = two_on_top p t lead.0 lead.1 by.rest told by.before in
    let flat = swap_flat p m x t old told st l lead.0 lead.1 by.rest top.cell top.next there is by.before top.is top.next_is in
    let one = amid_popped p t m old old _ x lead.0 _ top.cell _ t.world.store [] a (amid_first p t m old x _ _ st by.before top.split) c.in-Some.ensures flat.0 in
    let two = amid_popped p t m old _ _ x lead.1 by.rest top.next top.below t.world.store (cell_blocks a ++ []) b one.2 c.in-Some-pop.ensures flat.1 in
    let turned = in_order p t m old _ x by.rest top.below t.world.store _ (cell_blocks a ++ (cell_blocks b ++ []))
    (λ q. let e = times_append q (cell_blocks a) (cell_blocks b ++ []) in let f = times_append q (cell_blocks b) (cell_blocks a ++ []) in
    let h = times_append q (cell_blocks a) [] in let k = times_append q (cell_blocks b) [] in omega (arith, e, f, h, k)) two.2 in
    let again = amid_pushed p t m old _ _ x lead.0 by.rest top.cell top.below t.world.store (cell_blocks b ++ []) a _ turned c.push.ensures flat.0 one.0 one.1 in
    goes_with p l t m m old x st _ b top.next (goes p l t is (λ rest. swapped p l t rest _ _ _ top.split)) again
    (c.push.ensures.pc ∙ c.in-Some-pop.ensures.pc ∙ c.in-Some.ensures.pc) (after_at by.next refl refl) c.go_on_with.ensures flat.1 two.0 two.1
