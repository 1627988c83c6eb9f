use Rattle.std.proofs.Common.{◌≡◌, ◌+◌, ◌<◌, ◌∷◌, [], length, take, get_or, arith}
use Rattle.f3_code.specs.Lower.{routine_of, routines_from}
use Rattle.f3_code.specs.Code.{routines_code}
use Rattle.f3_gen_values.specs.Emitted.{Emitted}
use Rattle.f3_gen_values.proofs.Emitting.{emitted_then}
use Rattle.f3_gen_procedures.specs.Ends.{routine_ends}
use Rattle.f3_gen_procedures.proofs.Newest.{newest_routines, newest_code, ended_more}
use Rattle.f3_gen_procedures.proofs.routines.emit_routines.Goals as goal

pub loop-number-preserved : goal.loop-number-preserved
loop-number-preserved c =
    let within : c.loop-number.number < length c.args.types.now = rw c.items-of-items.ensures at c.loop-number-test.true in
    let is : c.of-item.result ≡ get_or c.args.types.now c.loop-number.number c.of-item.result = rw c.items-of-items.ensures at c.of-item.is in
    let whole : Emitted c.args.code.now.items c.emit_routine.new.code.items (routines_code (routine_of c.args.types.now c.loop-number.number 0 c.deref.result.now ∷ routines_from c.args.types.now [] (take c.loop-number.number c.args.types.now)))
    = rw (newest_code c.args.types.now c.loop-number.number c.deref.result.now within)
    (emitted_then (emitted_then c.loop-number.invariant.emitted c.in_ok-put.ensures) c.in_ok-emit_routine.ensures) in
    rw (newest_routines c.args.types.now c.loop-number.number c.of-item.result c.deref.result.now within is c.deref.ensures.value)
    (record {
      emitted = whole;
      ended = ended_more c.args.ends.now.items c.loop-number.ends.items c.push.new.self.items c.len.result
          (length c.args.code.now.items + length (routines_code (routine_of c.args.types.now c.loop-number.number 0 c.deref.result.now ∷ routines_from c.args.types.now [] (take c.loop-number.number c.args.types.now))))
          (routine_ends (length c.args.code.now.items) (routines_from c.args.types.now [] (take c.loop-number.number c.args.types.now)))
          c.loop-number.invariant.ended c.in_ok-push.ensures.items (omega (arith, whole.longer));
    })
