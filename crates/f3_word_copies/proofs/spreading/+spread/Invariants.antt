use Rattle.std.proofs.Common.{◌≡◌, length}
use Rattle.std.specs.Prelude.{ℤ, pos, ◌+ℤ◌, ◌*ℤ◌}
use Rattle.f3_live_blocks.specs.Blocks.{words_of}
use Rattle.f3_desc.specs.Inner.Congruent.{IsCongruent}
use Rattle.f3_room_arrays.specs.Words.{AreInside, places_from}
use Rattle.f3_word_copies.specs.Spread.{source_words}
use Rattle.f3_word_copies.proofs.Spreads.{IsSpread, rows}
use Rattle.f3_word_copies.proofs.spreading.+spread.Given as goal

abbrev pub decreases-spread : goal.decreases-spread
decreases-spread g l = length l.dims.now

abbrev pub invariant-loop-each : goal.invariant-loop-each
invariant-loop-each g l = record {
  done : (z : ℤ) → IsCongruent (pos l.at) z
      → AreInside (length (words_of (g.B.Blocks.blocks l.fn.heap) l.block)) (length (source_words (g.B.Blocks.blocks l.fn.heap) l.fn.source)) (places_from z l.fn.dims)
      → IsSpread (g.B.Blocks.blocks l.fn.heap) (g.B.Blocks.blocks l.heap) l.block (source_words (g.B.Blocks.blocks l.fn.heap) l.fn.source) (rows l.others z l.last.stride l._each);
  place : (z : ℤ) → IsCongruent (pos l.at) z → IsCongruent (pos l.place) (z +ℤ (pos l._each *ℤ l.last.stride));
  kept : g.B.Blocks.kept l.heap ≡ g.B.Blocks.kept l.fn.heap;
}
