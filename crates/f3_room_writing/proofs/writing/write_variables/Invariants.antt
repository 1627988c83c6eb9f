use Rattle.f3_meaning_whole.specs.Shape.{shapes_of}
use Rattle.f3_data.specs.Values.{values_of}
use Rattle.f3_room_writing.proofs.Leaving.{Leaves}
use Rattle.f3_room_writing.proofs.writing.write_variables.Given as goal

abbrev pub invariant-loop-number : goal.invariant-loop-number
invariant-loop-number g l = Leaves (g.B.Blocks.blocks l.initial.heap) (g.B.Blocks.blocks l.heap) (shapes_of l.types) l.declared l.block l.first l.number l.at (values_of l.values)
