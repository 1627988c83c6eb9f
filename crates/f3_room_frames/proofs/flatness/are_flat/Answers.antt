use Rattle.std.proofs.Common.{arith}
use Rattle.f3_room_frames.proofs.Flats.{next_parts, one_held, one_typed, all_parts}
use Rattle.f3_room_frames.proofs.flatness.are_flat.Goals as goal

pub returns-then-component : goal.returns-then-component
returns-then-component c = λ ts told. one_held c.args.components.now c.loop-component.component-index c.component-item.result (omega arith) c.component-item.is ts c.if-component.true

pub returns-then-not-is_flat : goal.returns-then-not-is_flat
returns-then-not-is_flat c = λ ts told. one_typed c.args.components.now c.loop-component.component-index c.component-item.result (omega arith) c.component-item.is ts
    c.is_flat.result (c.is_flat.ensures ts told) c.if-not-is_flat.true

pub loop-component-preserved : goal.loop-component-preserved
loop-component-preserved c = λ ts told. next_parts c.args.components.now c.loop-component.component-index c.component-item.result (omega arith) c.component-item.is ts
    c.is_flat.result (c.loop-component.invariant ts told) c.if-component.false (c.is_flat.ensures ts told) c.if-not-is_flat.false

pub returns : goal.returns
returns c = λ ts told. all_parts c.args.components.now c.loop-component.component-index ts (omega arith) (c.loop-component.invariant ts told)
