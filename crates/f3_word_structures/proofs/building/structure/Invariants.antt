use Rattle.std.proofs.Common.{◌≡◌}
use Rattle.f3_live_blocks.specs.Blocks.{words_of}
use Rattle.f3_word_structures.proofs.Emptying.{Emptying}
use Rattle.f3_word_structures.proofs.building.structure.Given as goal

abbrev pub invariant-loop-each : goal.invariant-loop-each
invariant-loop-each g l = record {
  emptying : Emptying l.scene.program.now (g.B.Blocks.blocks l.fn.heap) l.fn.state l.of l.count l.block (words_of (g.B.Blocks.blocks l.initial.heap) l.block) (g.B.Blocks.blocks l.heap)
      l.state l._each;
  kept : g.B.Blocks.kept l.heap ≡ g.B.Blocks.spent (g.B.Blocks.kept l.fn.heap);
}
