use Rattle.f3_meaning_whole.specs.Shape.{parts_in}
use Rattle.f3_room_types.specs.Pieces.{HasParts, layouts_of}
use Rattle.f3_room_types.proofs.LayoutLaws.{parts_within, whole_result}
use Rattle.f3_room_types.proofs.layouts.whole.Goals as goal

pub record-requires : goal.record-requires
record-requires c =
    let parts : HasParts c.args.pieces.now.pieces.items c.parts.new.pieces.pieces.items (parts_in c.requires.0 c.args.components.now) c.in-Some.parts.items
    = rw c.in-Some.is at (c.in_ok-parts.ensures c.requires.0 0 c.requires.1) in
    parts_within (layouts_of c.parts.new.pieces.pieces.items) (parts_in c.requires.0 c.args.components.now) c.in-Some.parts.items parts.are

pub returns-in-Some : goal.returns-in-Some
returns-in-Some c = whole_result c.args.components.now c.args.pieces.now.pieces.items c.parts.new.pieces.pieces.items c.record.new.self.pieces.items c.args.numbers.now c.in-Some.parts.items c.record.result
    (λ ts t have. rw c.in-Some.is at (c.in_ok-parts.ensures ts t have)) c.record.ensures

pub returns-in-None : goal.returns-in-None
returns-in-None c = λ ts t have. rw c.in-None.is at (c.in_ok-parts.ensures ts t have)
