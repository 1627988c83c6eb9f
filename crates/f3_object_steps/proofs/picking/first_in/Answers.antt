use Rattle.std.proofs.Common.{arith}
use Rattle.f3_data.specs.Values.{span_of}
use Rattle.f3_cells.specs.Cells.{chosen_of}
use Rattle.f3_object_steps.proofs.FirstPlaces.{row_some}
use Rattle.f3_object_steps.proofs.picking.first_in.Goals as goal

pub returns-in-Some-place_of : goal.returns-in-Some-place_of
returns-in-Some-place_of c =
    row_some (span_of c.args.span) (chosen_of c.args.choice) c.args.row c.in-Some-place_of.place c.in-Some.offset c.walk_of-walk.result c.walk_of-walk.ensures.subscripts (omega arith) c.in-Some.ensures.value.1 c.in-Some-place_of.ensures.1
