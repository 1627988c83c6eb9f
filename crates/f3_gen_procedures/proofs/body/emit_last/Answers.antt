use Rattle.std.proofs.Common.{length}
use Rattle.f3_gen_values.proofs.Emitting.{emitted_then}
use Rattle.f3_gen_work.proofs.Emitting.{in_types, on_ok, same_in, then_in}
use Rattle.f3_gen_procedures.proofs.Held.{held_any}
use Rattle.f3_gen_procedures.proofs.body.emit_last.Goals as goal

pub returns : goal.returns
returns c =
    on_ok c.emit_finishes.result (λ last. same_in _
    (then_in (in_types (emitted_then (emitted_then (emitted_then c.in_ok-put.ensures c.in_ok-emit_held_arguments.ensures) c.in_ok-put-2.ensures) c.in_ok-put-3.ensures)) last)
    (λ g e. rw (c.deref.ensures.value, c.deref-2.ensures.value, c.result_number.ensures g, held_any (length c.args.types.now) 0 c.args.procedure.now.dummies.items)))
    c.emit_finishes.ensures
