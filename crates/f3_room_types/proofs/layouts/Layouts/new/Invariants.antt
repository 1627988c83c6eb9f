use Rattle.std.proofs.Common.{take}
use Rattle.std.specs.Prelude.{All}
use Rattle.f3_meaning_whole.specs.Shape.{shapes_of}
use Rattle.f3_room_types.specs.Pieces.{AreNumbered, HasLayout, layouts_of}
use Rattle.f3_room_types.proofs.layouts.Layouts.new.Given as goal

abbrev pub invariant-loop-one : goal.invariant-loop-one
invariant-loop-one l = record {
  numbered : AreNumbered (layouts_of l.pieces.pieces.items) (shapes_of (take l.one-index l.types)) l.numbers.items;
  all : All HasLayout (shapes_of (take l.one-index l.types));
}
