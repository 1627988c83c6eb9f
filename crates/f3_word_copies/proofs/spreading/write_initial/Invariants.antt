use Rattle.std.proofs.Common.{◌≡◌, take}
use Rattle.f3_meaning_whole.specs.Shape.{shape_in}
use Rattle.f3_room_places.specs.Places.{shapes}
use Rattle.f3_room_levels.specs.Initial.{object_words}
use Rattle.f3_objects.proofs.Writes.{Wrote}
use Rattle.f3_word_copies.proofs.spreading.write_initial.Given as goal

abbrev pub invariant-loop-number : goal.invariant-loop-number
invariant-loop-number g l = record {
  wrote : Wrote (g.B.Blocks.blocks l.fn.heap) (g.B.Blocks.blocks l.heap) l.block l.at (take l.number (object_words (shape_in (shapes l.types) l.of)));
  kept : g.B.Blocks.kept l.heap ≡ g.B.Blocks.kept l.fn.heap;
}
