use Rattle.std.proofs.Common.{◌∷◌, [], length, subst, arith}
use Rattle.std.proofs.lemmas.List.{length-append}
use Rattle.f3_code.specs.declared.instruction.Instruction.TheVariants as i
use Rattle.f3_code.specs.State.{line}
use Rattle.f3_code.specs.Lower.{object_work}
use Rattle.f3_code.specs.Work as w
use Rattle.f3_code.specs.Code.{work_code}
use Rattle.f3_gen_values.specs.Emitted.{Emitted}
use Rattle.f3_gen_values.proofs.Emitting.{emitted_then}
use Rattle.f3_gen_work.proofs.Emitting.{emitted_over, on_ok}
use Rattle.f3_gen_actions.proofs.storage.emit_free.Goals as goal

pub returns : goal.returns
returns c =
    let freed : Emitted c.put-2.new.code.items c.emit_deallocation.new.code.items
    (work_code (length c.args.types.now) c.args.place (w.Of_contents (object_work c.args.types.now (length c.args.types.now) c.args.of)))
    = subst (λ n. Emitted c.put-2.new.code.items c.emit_deallocation.new.code.items (work_code n c.args.place (w.Of_contents (object_work c.args.types.now n c.args.of))))
    c.len.ensures c.in_ok-emit_deallocation.ensures in
    on_ok c.put-3.result (λ last. emitted_over (λ n. line c.args.place (i.TestFree n) ∷ []) _ _
    (emitted_then (emitted_then c.in_ok-put.ensures c.in_ok-put-2.ensures) freed) last (omega arith)
    (length-append (work_code (length c.args.types.now) c.args.place (w.Of_contents (object_work c.args.types.now (length c.args.types.now) c.args.of)))
    (line c.args.place i.Drop ∷ line c.args.place i.NoError ∷ [])))
    c.put-3.ensures
