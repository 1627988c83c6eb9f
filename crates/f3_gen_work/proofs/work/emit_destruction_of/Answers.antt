use Rattle.f3_gen_values.proofs.Emitting.{emitted_then, then_ok}
use Rattle.f3_gen_work.proofs.Finals.{destroyed}
use Rattle.f3_gen_work.proofs.work.emit_destruction_of.Goals as goal

pub returns : goal.returns
returns c =
    then_ok _ _ c.put-3.result
    (emitted_then (emitted_then (emitted_then c.in_ok-put.ensures c.in_ok-put-2.ensures) c.in_ok-emit_elements.ensures) c.in_ok-emit_finals_of.ensures)
    c.put-3.ensures (destroyed c.args.types.now c.args.count c.args.place c.args.number c.requires.counted c.requires.destroyed)
