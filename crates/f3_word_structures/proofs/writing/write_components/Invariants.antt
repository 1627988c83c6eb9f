use Rattle.std.proofs.Common.{◌≡◌, drop}
use Rattle.f3_room_places.specs.Places.{shapes}
use Rattle.f3_word_structures.proofs.Filling.{Writing}
use Rattle.f3_word_structures.proofs.writing.write_components.Given as goal

abbrev pub invariant-loop-number : goal.invariant-loop-number
invariant-loop-number g l = record {
  writing : Writing (shapes l.types) (g.B.Blocks.blocks l.initial.heap) (g.B.Blocks.blocks l.heap) l.cells l.block l.at l.number (drop l.number l.components) l.components;
  kept : g.B.Blocks.kept l.heap ≡ g.B.Blocks.kept l.initial.heap;
}
