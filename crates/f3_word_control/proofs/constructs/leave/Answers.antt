use Rattle.f3_word_cells.specs.declared.cell.Here.{Here}
use Rattle.std.proofs.Common.{sym, ap, ◌∙◌}
use Rattle.f3_code.specs.Machine.{flow_of}
use Rattle.f3_word_cells.proofs.OnTop.{line_kinds}
use Rattle.f3_word_cells.proofs.Within.{here_stands}
use Rattle.f3_word_control.proofs.Lines.{goes}
use Rattle.f3_word_control.proofs.Tops.{left_on, left_at}
use Rattle.f3_word_control.proofs.Does.{left_so}
use Rattle.f3_word_control.proofs.Leaving.{outside_of, left_ahead}
use Rattle.f3_word_control.proofs.constructs.leave.Goals as goal

pub returns-in_default-clause-does : goal.returns-in_default-clause-does
returns-in_default-clause-does c = λ p m size t l x told there is st.
    let top = left_on p m x t _ told st l c.args.way c.args.distance (line_kinds p t l _ told there is) in
    absurd (c.in_default.ensures.taken top.0 top.1 top.2)

pub returns-clause-does : goal.returns-clause-does
returns-clause-does c = λ p m size t l x told there is st.
    let at = left_at p m x t _ told st l c.args.way c.args.distance (line_kinds p t l _ told there is) in
    let top = outside_of p l t m _ x st _ c.in-Some.ensures.taken in
    let here = here_stands p m _ x _ _ _ _ _ st.stack in
    left_ahead p l t m _ x st _ _ _ _ at.0 at.1 _ _ c.ahead.result top.0 top.1 at.2 at.3 at.4 c.in-Some.ensures.taken c.push.ensures
    (ap (flow_of c.args.way) (here.place ∙ ap (λ (h : Here). h.place) (sym c.in-Some.ensures.taken.same.here)) ∙ sym c.flow_of-flow.ensures)
    top.3 size c.ahead.ensures (goes p l t is (λ rest. left_so p l t rest _ _ _ _ top.2))
