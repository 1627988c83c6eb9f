use Rattle.std.proofs.Common.{arith, refl}
use Rattle.std.proofs.lemmas.Option.{slice_get_read}
use Rattle.f3_room_frames.proofs.LayoutLaws.{refused}
use Rattle.f3_room_frames.proofs.laying.lay_out.Goals as goal

pub loop-one-init : goal.loop-one-init
loop-one-init c = λ ts have. c.new-layout.ensures ts

pub returns-then-not-branch : goal.returns-then-not-branch
returns-then-not-branch c = λ ts have. refused ts c.args.declared.now c.loop-one.one-index c.one-item.result c.loop-one.layout c.add.new.self c.in_ok-add.field-0
    (c.in_ok-add.ensures ts have) c.if-not-branch.true (c.loop-one.invariant ts have) (slice_get_read c.args.declared.now _ c.loop-one.one-index c.one-item.result refl (omega arith) c.one-item.is)
