use Rattle.std.proofs.Common.{◌≡◌, take}
use Rattle.std.specs.Prelude.{pos}
use Rattle.f3_desc.specs.Descriptor.{places, progression}
use Rattle.f3_room_arrays.proofs.Placing.{IsCopied}
use Rattle.f3_word_copies.proofs.elements.take_each.Given as goal

abbrev pub invariant-loop-number : goal.invariant-loop-number
invariant-loop-number g l = record {
  copied : IsCopied (g.B.Blocks.blocks l.initial.heap) (g.B.Blocks.blocks l.heap) l.from l.elements.block l.words (take l.number (places l.elements)) (progression (pos 0) (pos l.words) l.number);
  kept : g.B.Blocks.kept l.heap ≡ g.B.Blocks.kept l.initial.heap;
}
