use Rattle.std.proofs.Common.{[], ◌+◌, refl, sym, subst}
use Rattle.f3_rooms.specs.Laws.{without}
use Rattle.f3_shaping.specs.Results.{value_text}
use Rattle.f3_word_cells.specs.States.{datum_blocks}
use Rattle.f3_word_cells.specs.Does.{Follows}
use Rattle.f3_word_cells.proofs.OnTop.{line_kinds}
use Rattle.f3_word_cells.proofs.Amid.{amid_first}
use Rattle.f3_word_cells.proofs.InHand.{amid_without}
use Rattle.f3_word_control.proofs.Moving.{datum_taken}
use Rattle.f3_word_control.proofs.Lines.{after_at, prints, goes_so, with_stack}
use Rattle.f3_word_control.proofs.Tops.{datum_on}
use Rattle.f3_word_control.proofs.Does.{value_printed}
use Rattle.f3_word_control.proofs.Shown.{printed, shown}
use Rattle.f3_word_control.proofs.printing.print_value.Goals as goal

pub returns-in_default-clause-does : goal.returns-in_default-clause-does
returns-in_default-clause-does g c = λ p t l x told there is st.
    let lead = line_kinds p t l _ told there is in
    let top = datum_on p (g.B.Blocks.blocks c.args.heap.now) x t _ told st _ _ lead.2.before in
    absurd (c.in_default.ensures.taken top.0 top.1 top.3)

pub returns-in-Ok-clause-does : goal.returns-in-Ok-clause-does
returns-in-Ok-clause-does g c = λ p t l x told there is st.
    let m = g.B.Blocks.blocks c.args.heap.now in
    let d = c.in-Some.datum in
    let lead = line_kinds p t l _ told there is in
    let top = datum_taken p t m _ x _ c.in-Some.ensures.taken (amid_first p t m _ x _ t.stack st lead.2.before refl) in
    let gone = amid_without p t m _ _ x _ top.below t.world.store (datum_blocks d) [] top.amid in
    let text = shown p m lead.0 d top.value lead.1 top.known top.is in (
      value_text top.value,
      subst (λ n. Follows p l t (value_text top.value) n c.advance.new.self) (sym c.let_go_datum.ensures.given)
          (prints p l t m (without (datum_blocks d) m) _ x st top.below (value_text top.value)
          (goes_so p l t _ [] tt is (printed (value_text top.value)) (λ rest. value_printed p l t rest _ _ top.split)) gone
          c.in-Some.ensures.taken.pc (after_at lead.2.next refl refl) c.advance.ensures),
      rw (sym text) (c.in-Ok.ensures {u = tt}).all,
    )

pub returns-in-Err-clause-does : goal.returns-in-Err-clause-does
returns-in-Err-clause-does g c = λ p t l x told there is st.
    let m = g.B.Blocks.blocks c.args.heap.now in
    let lead = line_kinds p t l _ told there is in
    let top = datum_taken p t m _ x _ c.in-Some.ensures.taken (amid_first p t m _ x _ t.stack st lead.2.before refl) in
    let text = shown p m lead.0 c.in-Some.datum top.value lead.1 top.known top.is in (
      with_stack (t.pc + 1) top.below t,
      value_text top.value,
      goes_so p l t _ [] tt is (printed (value_text top.value)) (λ rest. value_printed p l t rest _ _ top.split),
      rw (sym text) (c.in-Err.ensures {u = tt}).front,
    )
