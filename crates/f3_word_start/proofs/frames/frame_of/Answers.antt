use Rattle.std.proofs.Common.{arith}
use Rattle.f3_room_places.specs.Places.{shapes}
use Rattle.f3_word_start.proofs.Framing.{next_declared, one_not}
use Rattle.f3_word_start.proofs.frames.frame_of.Goals as goal

pub returns-then-not-branch : goal.returns-then-not-branch
returns-then-not-branch c =
    let ds = c.args.declared.now in
    let i = c.loop-one.one-index in
    one_not (shapes c.args.types) c.loop-one.frame c.one-item.result ds i (next_declared ds i c.one-item.result (omega arith) c.one-item.is) c.add.new.frame
    c.in_ok-add.field-0 c.in_ok-add.ensures c.loop-one.invariant c.if-not-branch.true

pub loop-one-init : goal.loop-one-init
loop-one-init c = c.empty-frame.ensures (shapes c.args.types)
