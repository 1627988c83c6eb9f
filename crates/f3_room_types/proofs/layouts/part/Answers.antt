use Rattle.std.proofs.Common.{arith, ◌≡◌, ap, ◌∙◌, List}
use Rattle.f3_program.specs.declared.declarations.Dimension.{Dimension}
use Rattle.f3_meaning_whole.specs.Value.{count}
use Rattle.f3_meaning_whole.specs.Shape.{spans_declared}
use Rattle.f3_room_types.specs.Pieces.{layouts_of}
use Rattle.f3_room_types.proofs.LayoutLaws.{array_result}
use Rattle.f3_room_types.proofs.layouts.part.Goals as goal

pub returns-in-Some : goal.returns-in-Some
returns-in-Some c =
    let among : c.in-Some.count ≡ count (spans_declared c.deref.result.now) = rw c.in-Some.is at c.elements.ensures in
    let is : c.in-Some.count ≡ count (spans_declared c.args.declared.now.dimensions.items) = among ∙ ap (λ (ds : List Dimension). count (spans_declared ds)) c.deref.ensures.value in
    array_result c.args.declared.now c.args.pieces.now.pieces.items c.array.new.self.pieces.items c.args.numbers.now c.number_of-of.result c.in-Some.count c.array.result
    (λ ts have. c.number_of-of.ensures.at (layouts_of c.args.pieces.now.pieces.items) ts have) c.if-declared.false (omega arith) is (omega arith) c.array.ensures
