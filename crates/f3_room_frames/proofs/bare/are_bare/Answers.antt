use Rattle.std.proofs.Common.{arith}
use Rattle.f3_room_frames.proofs.BareLaws.{has_none, has_some, next_bare, one_begun, one_not}
use Rattle.f3_room_frames.proofs.bare.are_bare.Goals as goal

pub returns-then-not-is_empty : goal.returns-then-not-is_empty
returns-then-not-is_empty c = λ ts told. one_begun c.args.components.now c.loop-component.component-index c.component-item.result (omega arith) c.component-item.is ts
    (has_some c.is_empty.result c.component-item.result.declared.initial c.is_empty.ensures c.if-not-is_empty.true)

pub returns-then-not-is_bare : goal.returns-then-not-is_bare
returns-then-not-is_bare c = λ ts told. one_not c.args.components.now c.loop-component.component-index c.component-item.result (omega arith) c.component-item.is ts
    c.is_bare.result (c.is_bare.ensures ts told) c.if-not-is_bare.true

pub loop-component-preserved : goal.loop-component-preserved
loop-component-preserved c = λ ts told. next_bare c.args.components.now c.loop-component.component-index c.component-item.result (omega arith) c.component-item.is ts
    c.is_bare.result (c.loop-component.invariant ts told) (has_none c.is_empty.result c.component-item.result.declared.initial c.is_empty.ensures c.if-not-is_empty.false)
    (c.is_bare.ensures ts told) c.if-not-is_bare.false
