use Rattle.std.proofs.Common.{[], ◌∷◌, ◌+◌, refl}
use Rattle.f3_word_cells.proofs.OnTop.{line_kinds}
use Rattle.f3_word_cells.proofs.Amid.{amid_first}
use Rattle.f3_word_control.proofs.Lines.{after_at, prints, goes_so, with_stack}
use Rattle.f3_word_control.proofs.Does.{byte_printed}
use Rattle.f3_word_control.proofs.printing.print_byte.Goals as goal

pub returns-in-Ok-clause-does : goal.returns-in-Ok-clause-does
returns-in-Ok-clause-does g c = λ m p t l x told there is st.
    let lead = line_kinds p t l _ told there is in
    let bytes = c.args.byte ∷ [] in (
      bytes,
      prints p l t m m _ x st t.stack bytes (goes_so p l t _ [] tt is refl (λ rest. byte_printed p l t rest c.args.byte))
          (amid_first p t m _ x _ t.stack st lead.before refl) refl (after_at lead.next refl refl) c.advance.ensures,
      (c.in-Ok.ensures {u = tt}).all,
    )

pub returns-in-Err-clause-does : goal.returns-in-Err-clause-does
returns-in-Err-clause-does g c = λ m p t l x told there is st. (
  with_stack (t.pc + 1) t.stack t,
  c.args.byte ∷ [],
  goes_so p l t _ [] tt is refl (λ rest. byte_printed p l t rest c.args.byte),
  (c.in-Err.ensures {u = tt}).front,
)
