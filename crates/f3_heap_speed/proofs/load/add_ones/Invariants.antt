-- The block stays live, and as long, and `at` lies in it.
use Rattle.std.proofs.Common.{length, ◌<◌, ◌≡◌}
use Rattle.f3_live_blocks.specs.Blocks.{IsLive, words_of}
use Rattle.f3_heap_speed.proofs.load.add_ones.Given as goal

abbrev pub invariant-loop : goal.invariant-loop
invariant-loop g l = (IsLive (g.B.Blocks.blocks l.heap) l.block) × (l.size ≡ length (words_of (g.B.Blocks.blocks l.heap) l.block)) × (l.at < l.size)
