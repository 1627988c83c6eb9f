use Rattle.std.proofs.Common.{refl, sym, ap, ◌∙◌}
use Rattle.f3_meaning_whole.specs.Value.{Truth}
use Rattle.f3_meaning_whole.specs.Arithmetic.{constant_value, meets}
use Rattle.f3_word_cells.proofs.OnTop.{line_kinds}
use Rattle.f3_word_cells.proofs.Amid.{amid_first}
use Rattle.f3_word_cells.proofs.Within.{here_stands}
use Rattle.f3_word_control.proofs.Lines.{goes_with, goes}
use Rattle.f3_word_control.proofs.Tops.{selected_meets, met_at}
use Rattle.f3_word_control.proofs.Does.{met}
use Rattle.f3_word_control.proofs.constructs.meets.Goals as goal

pub returns-clause-does : goal.returns-clause-does
returns-clause-does c = λ p m t l x told there is st.
    let at = met_at p m x t _ told st l c.args.range (line_kinds p t l _ told there is) in
    let here = here_stands p m _ x _ _ _ _ _ st.stack in
    goes_with p l t m m _ x st t.stack _ _ (goes p l t is (λ rest. met p l t rest _ _ refl)) (amid_first p t m _ x _ t.stack st at.1 refl) refl at.2 c.go_on_with.ensures tt
    (ap Truth (selected_meets c.args.range c.args.state.now.here.selected _ here.selected
    ∙ ap (λ y. meets c.args.range (constant_value y)) (sym c.unwrap_or-selected.ensures) ∙ sym c.meets-is_met.ensures)) tt
