use Rattle.std.proofs.Common.{arith, map}
use Rattle.f3_program.specs.declared.program.Static as static
use Rattle.f3_room_frames.proofs.LayoutLaws.{refused, one_more, static_at}
use Rattle.f3_room_frames.proofs.laying.lay_out_statics.Goals as goal

pub loop-one-init : goal.loop-one-init
loop-one-init c = λ ts have. c.new-layout.ensures ts

pub returns-then-not-branch : goal.returns-then-not-branch
returns-then-not-branch c = λ ts have. refused ts (map (λ (s : static.Static). s.declared) c.args.statics.now) c.loop-one.one-index _ c.loop-one.layout c.add.new.self c.in_ok-add.field-0
    (c.in_ok-add.ensures ts have) c.if-not-branch.true (c.loop-one.invariant ts have) (static_at c.args.statics.now c.loop-one.one-index c.one-item.result (omega arith) c.one-item.is)

pub loop-one-preserved : goal.loop-one-preserved
loop-one-preserved c = λ ts have. one_more ts (map (λ (s : static.Static). s.declared) c.args.statics.now) c.loop-one.one-index _ c.loop-one.layout c.add.new.self c.in_ok-add.field-0
    (c.in_ok-add.ensures ts have) c.if-not-branch.false (c.loop-one.invariant ts have) (static_at c.args.statics.now c.loop-one.one-index c.one-item.result (omega arith) c.one-item.is)
