use Rattle.std.proofs.Common.{◌≡◌}
use Rattle.std.specs.Prelude.{pos}
use Rattle.f3_desc.specs.Descriptor.{progression}
use Rattle.f3_room_arrays.proofs.Placing.{IsCopied}
use Rattle.f3_room_arrays.proofs.words.copy_run.Given as goal

-- so many elements are copied
abbrev pub invariant-loop-number : goal.invariant-loop-number
invariant-loop-number g l = record {
  copied : IsCopied (g.B.Blocks.blocks l.initial.heap) (g.B.Blocks.blocks l.heap) l.from.block l.to.block l.words
      (progression (pos l.to.at) l.to.stride l.number) (progression (pos l.from.at) l.from.stride l.number);
  kept : g.B.Blocks.kept l.heap ≡ g.B.Blocks.kept l.initial.heap;
}
