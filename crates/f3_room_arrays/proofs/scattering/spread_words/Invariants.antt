use Rattle.std.proofs.Common.{◌≡◌, ◌+◌, ◌*◌, take}
use Rattle.std.specs.Prelude.{pos}
use Rattle.std.specs.List.{flat_map}
use Rattle.f3_desc.specs.Descriptor.{progression}
use Rattle.f3_room_arrays.specs.Words.{places_from}
use Rattle.f3_room_arrays.proofs.Placing.{IsCopied}
use Rattle.f3_room_arrays.proofs.Numbers.{along}
use Rattle.f3_room_arrays.proofs.scattering.spread_words.Given as goal

-- so many runs are copied
abbrev pub invariant-loop-number : goal.invariant-loop-number
invariant-loop-number g l = record {
  copied : IsCopied (g.B.Blocks.blocks l.initial.heap) (g.B.Blocks.blocks l.heap) l.from l.elements.block l.words
      (flat_map (along l.first) (take l.number (places_from (pos l.elements.offset) l.others))) (progression (pos l.from_at) (pos l.step) (l.number * l.first.extent));
  at : l.at ≡ l.from_at + l.number * l.first.extent * l.step;
  kept : g.B.Blocks.kept l.heap ≡ g.B.Blocks.kept l.initial.heap;
}
