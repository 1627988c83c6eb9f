use Rattle.std.proofs.Common.{◌≡◌, map, drop}
use Rattle.f3_blocks.specs.Machine.{in_loop, open_view}
use Rattle.f3_blocks.proofs.builder.BlockBuilder.in_loop.Given as goal

abbrev pub invariant-loop-construct : goal.invariant-loop-construct
invariant-loop-construct l = in_loop (map open_view (drop l.construct-index l.construct-items)) ≡ in_loop (map open_view l.self.constructs.items)
