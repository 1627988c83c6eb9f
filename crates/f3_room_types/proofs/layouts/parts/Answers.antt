use Rattle.std.proofs.Common.{arith}
use Rattle.f3_room_types.specs.Pieces.{layouts_of}
use Rattle.f3_room_types.proofs.LayoutLaws.{numbered_begins, not_placed, placed_more}
use Rattle.f3_room_types.proofs.layouts.parts.Goals as goal

pub part-requires : goal.part-requires
part-requires c = (
  c.requires.0,
  numbered_begins (layouts_of c.args.pieces.now.pieces.items) (layouts_of c.loop-component.pieces.pieces.items) c.requires.0 c.args.numbers.now c.loop-component.invariant.begins c.requires.1,
)

pub returns-in-None : goal.returns-in-None
returns-in-None c = λ ts t have. not_placed c.args.pieces.now.pieces.items c.loop-component.pieces.pieces.items c.part.new.pieces.pieces.items c.args.numbers.now c.args.components.now
    c.loop-component.component-index c.component-item.result c.loop-component.parts.items (omega arith) c.component-item.is c.loop-component.invariant c.in_ok-number.field-0 ts t have c.in-None.is
    c.in_ok-number.ensures

pub loop-component-preserved : goal.loop-component-preserved
loop-component-preserved c = placed_more c.args.pieces.now.pieces.items c.loop-component.pieces.pieces.items c.part.new.pieces.pieces.items c.args.numbers.now c.args.components.now
    c.loop-component.component-index c.component-item.result c.loop-component.parts.items (omega arith) c.component-item.is c.loop-component.invariant c.in_ok-number.field-0 c.in-Some.number _
    c.requires.0 c.requires.1 c.in-Some.is c.in_ok-number.ensures c.in_ok-push-in-Some.ensures.items
