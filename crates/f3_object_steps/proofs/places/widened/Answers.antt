use Rattle.f3_meaning_whole.specs.Act.{subscripts_in}
use Rattle.f3_data.specs.Values.{span_of}
use Rattle.f3_cells.specs.Cells.{chosen_of}
use Rattle.f3_object_steps.proofs.Running.{where_some}
use Rattle.f3_object_steps.proofs.Selecting.{offsets_below}
use Rattle.f3_object_steps.proofs.places.widened.Goals as goal

pub widened_by-requires : goal.widened_by-requires
widened_by-requires c =
    offsets_below (span_of c.args.span) (subscripts_in (span_of c.args.span) (chosen_of c.args.choice)) c.in-Some.offsets.items
    (where_some _ _ _ _ c.in-Some.is c.in_ok-offsets.ensures).0 (where_some _ _ _ _ c.in-Some.is c.in_ok-offsets.ensures).1
