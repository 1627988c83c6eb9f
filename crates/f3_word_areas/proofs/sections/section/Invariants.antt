use Rattle.std.specs.Prelude.{map}
use Rattle.f3_cells.specs.Cells.{chosen_of}
use Rattle.f3_desc.proofs.CutWalk.{Cutting}
use Rattle.f3_word_areas.specs.Sections.{triplets_of}
use Rattle.f3_word_areas.proofs.sections.section.Given as goal

abbrev pub invariant-loop-dim : goal.invariant-loop-dim
invariant-loop-dim l = Cutting l.array (triplets_of l.array.dims.items (map chosen_of l.chosen)) l.offset l.dims.items l.dim-iterator.a.rest.now (triplets_of l.dim-iterator.a.rest.now (map chosen_of l.dim-iterator.b.rest.now))
