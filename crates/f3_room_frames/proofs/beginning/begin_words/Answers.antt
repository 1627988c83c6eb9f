use Rattle.std.proofs.Common.{◌<◌, arith, length, map}
use Rattle.std.proofs.lemmas.List.{length-map}
use Rattle.f3_program.specs.declared.program.Static as static
use Rattle.f3_room_frames.proofs.LayoutLaws.{static_at}
use Rattle.f3_room_frames.proofs.Filling.{has_slot, slot_room, cannot_begin, next_begins}
use Rattle.f3_room_frames.proofs.beginning.begin_words.Goals as goal

pub index-requires : goal.index-requires
index-requires c =
    let h : c.loop-slot.slot < length c.args.layout.now.variables.items = has_slot c.requires.0 (map (λ (s : static.Static). s.declared) c.args.statics.now) c.args.layout.now c.loop-slot.slot c.requires.1
    (omega (arith, length-map c.args.statics.now (λ (s : static.Static). s.declared))) in
    omega arith

pub returns-then-not-branch : goal.returns-then-not-branch
returns-then-not-branch c = λ ts laid. cannot_begin ts (map (λ (s : static.Static). s.declared) c.args.statics.now) c.loop-slot.slot c.index-statics-slot.result.declared c.index.result.now.words c.in_ok-add_initial.field-0 _
    c.in_ok-add_initial.ensures (slot_room ts (map (λ (s : static.Static). s.declared) c.args.statics.now) c.args.layout.now c.loop-slot.slot c.index-statics-slot.result.declared c.index.result.now laid
    (static_at c.args.statics.now c.loop-slot.slot c.index-statics-slot.result (omega arith) c.index-statics-slot.is)
    (has_slot ts (map (λ (s : static.Static). s.declared) c.args.statics.now) c.args.layout.now c.loop-slot.slot laid (omega (arith, length-map c.args.statics.now (λ (s : static.Static). s.declared))))
    c.index.ensures) c.if-not-branch.true (static_at c.args.statics.now c.loop-slot.slot c.index-statics-slot.result (omega arith) c.index-statics-slot.is)

pub loop-slot-preserved : goal.loop-slot-preserved
loop-slot-preserved c = λ ts laid. next_begins ts (map (λ (s : static.Static). s.declared) c.args.statics.now) c.loop-slot.slot c.index-statics-slot.result.declared c.index.result.now.words c.in_ok-add_initial.field-0
    c.loop-slot.words.items c.add_initial.new.words.items _ c.in_ok-add_initial.ensures (slot_room ts (map (λ (s : static.Static). s.declared) c.args.statics.now) c.args.layout.now c.loop-slot.slot c.index-statics-slot.result.declared c.index.result.now laid
    (static_at c.args.statics.now c.loop-slot.slot c.index-statics-slot.result (omega arith) c.index-statics-slot.is)
    (has_slot ts (map (λ (s : static.Static). s.declared) c.args.statics.now) c.args.layout.now c.loop-slot.slot laid (omega (arith, length-map c.args.statics.now (λ (s : static.Static). s.declared))))
    c.index.ensures) c.if-not-branch.false
    (static_at c.args.statics.now c.loop-slot.slot c.index-statics-slot.result (omega arith) c.index-statics-slot.is) (c.loop-slot.invariant ts laid)
