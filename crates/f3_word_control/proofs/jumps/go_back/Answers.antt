use Rattle.std.proofs.Common.{[], ap, refl, sym, ◌-◌, ◌∙◌}
use Rattle.f3_word_cells.proofs.OnTop.{line_kinds}
use Rattle.f3_word_cells.proofs.Amid.{amid_first, amid_line, amid_last}
use Rattle.f3_word_control.proofs.Lines.{after_at, goes, with_stack}
use Rattle.f3_word_control.proofs.Does.{went_back}
use Rattle.f3_word_control.proofs.jumps.go_back.Goals as goal

pub returns-clause-does : goal.returns-clause-does
returns-clause-does c = λ p m t l x told there is st.
    let old = c.args.state.now in
    let new = record old { pc = c.saturating_sub-state.result } in
    let amid = amid_line p t m old old x _ t.stack t.world.store [] c.saturating_sub-state.result (amid_first p t m old x _ t.stack st refl refl) in
    record {
      next = with_stack (t.pc - c.args.distance) t.stack t;
      rooms = x;
      goes = goes p l t is (λ rest. went_back p l t rest _);
      stands = amid_last p t m m old new x _ (t.pc - c.args.distance) t.stack t.world st amid (after_at (line_kinds p t l _ told there is) refl refl)
          (ap (λ k. k - c.args.distance) st.pc ∙ sym c.saturating_sub-state.ensures);
    }
