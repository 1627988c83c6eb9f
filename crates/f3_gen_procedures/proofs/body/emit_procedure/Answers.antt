use Rattle.f3_gen_work.proofs.Emitting.{in_types, on_ok, same_in, then_in}
use Rattle.f3_gen_procedures.proofs.body.emit_procedure.Goals as goal

pub returns : goal.returns
returns c =
    on_ok c.put-2.result (λ last. same_in _
    (then_in (then_in (then_in c.in_ok-emit_statements.ensures (in_types c.in_ok-put.ensures)) c.in_ok-emit_beginnings.ensures) (in_types last))
    (λ g e. rw c.deref.ensures.value))
    c.put-2.ensures
