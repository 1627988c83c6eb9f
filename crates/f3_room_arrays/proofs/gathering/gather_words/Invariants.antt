use Rattle.std.proofs.Common.{◌≡◌, ◌+◌, ◌*◌, take}
use Rattle.std.specs.Prelude.{pos}
use Rattle.std.specs.List.{flat_map}
use Rattle.f3_desc.specs.Descriptor.{progression}
use Rattle.f3_room_arrays.specs.Words.{places_from}
use Rattle.f3_room_arrays.proofs.Placing.{IsCopied}
use Rattle.f3_room_arrays.proofs.Numbers.{along}
use Rattle.f3_room_arrays.proofs.gathering.gather_words.Given as goal

-- so many runs are copied
abbrev pub invariant-loop-number : goal.invariant-loop-number
invariant-loop-number g l = record {
  copied : IsCopied (g.B.Blocks.blocks l.initial.heap) (g.B.Blocks.blocks l.heap) l.elements.block l.to l.words
      (progression (pos l.to_at) (pos l.words) (l.number * l.first.extent)) (flat_map (along l.first) (take l.number (places_from (pos l.elements.offset) l.others)));
  at : l.at ≡ l.to_at + l.number * l.first.extent * l.words;
  kept : g.B.Blocks.kept l.heap ≡ g.B.Blocks.kept l.initial.heap;
}
