use Rattle.std.proofs.Common.{◌≡◌, ◌/◌, length}
use Rattle.f3_word_arrays.specs.Items.{datum_words}
use Rattle.f3_word_structures.proofs.Filling.{Filling}
use Rattle.f3_word_structures.proofs.writing.write_given.Given as goal

abbrev pub invariant-loop-each : goal.invariant-loop-each
invariant-loop-each g l = record {
  filling : Filling (g.B.Blocks.blocks l.initial.heap) (g.B.Blocks.blocks l.heap) l.block l.at l.place l._each
      (l.room / length (datum_words (g.B.Blocks.blocks l.initial.heap) l.datum)) l.datum;
  kept : g.B.Blocks.kept l.heap ≡ g.B.Blocks.kept l.initial.heap;
}
