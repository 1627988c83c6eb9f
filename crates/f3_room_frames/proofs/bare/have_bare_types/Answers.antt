use Rattle.std.proofs.Common.{arith}
use Rattle.f3_room_frames.proofs.BareLaws.{next_types, one_type_not, all_types}
use Rattle.f3_room_frames.proofs.bare.have_bare_types.Goals as goal

pub returns-then-not-is_bare : goal.returns-then-not-is_bare
returns-then-not-is_bare c = λ ts ds told laid. one_type_not c.args.layout.now c.deref-variable-items.result.now c.deref-variable-items.ensures.value c.loop-variable.variable-index c.variable-item.result
    (omega arith) c.variable-item.is ts ds laid c.is_bare.result (c.is_bare.ensures ts told) c.if-not-is_bare.true

pub loop-variable-preserved : goal.loop-variable-preserved
loop-variable-preserved c = λ ts ds told laid. next_types c.args.layout.now c.deref-variable-items.result.now c.deref-variable-items.ensures.value c.loop-variable.variable-index c.variable-item.result
    (omega arith) c.variable-item.is ts ds laid c.is_bare.result (c.loop-variable.invariant ts ds told laid) (c.is_bare.ensures ts told) c.if-not-is_bare.false

pub returns : goal.returns
returns c = λ ts ds told laid. all_types c.args.layout.now c.deref-variable-items.result.now c.loop-variable.variable-index ts ds c.deref-variable-items.ensures.value
    (omega arith) laid (c.loop-variable.invariant ts ds told laid)
