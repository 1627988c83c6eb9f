use Rattle.std.proofs.Common.{◌≡◌, ◌-◌, ◌*◌, ◌^◌, min, take}
use Rattle.f3_desc.specs.Laws.{size_of}
use Rattle.f3_word_reads.specs.Packed.{packed_from}
use Rattle.f3_word_reads.proofs.packing.pack.Given as goal

abbrev pub invariant-loop-dim : goal.invariant-loop-dim
invariant-loop-dim l = record {
  items : l.packed.items ≡ packed_from l.words (take l.dim-index l.dims);
  distance : l.distance ≡ min (size_of (take l.dim-index l.dims) * l.words) (2 ^ 64 - 1);
}
