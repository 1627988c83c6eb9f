use Rattle.std.proofs.Common.{◌≡◌}
use Rattle.f3_word_arrays.proofs.Arrays.{Gathering}
use Rattle.f3_word_arrays.proofs.building.array.Given as goal

abbrev pub invariant-loop-number : goal.invariant-loop-number
invariant-loop-number g l = record {
  gathering : Gathering l.scene.program.now (g.B.Blocks.blocks l.fn.heap) l.fn.state l.count l.of l.size l.block (g.B.Blocks.blocks l.heap) l.state l.number;
  kept : g.B.Blocks.kept l.heap ≡ g.B.Blocks.spent (g.B.Blocks.kept l.fn.heap);
}
