use Rattle.std.proofs.Common.{map}
use Rattle.f3_data.specs.Values.{spans_of}
use Rattle.f3_data.specs.References.{reference_of}
use Rattle.f3_cells.specs.Cells.{chosen_of}
use Rattle.f3_object_steps.proofs.Picks.{each_by, each_err}
use Rattle.f3_object_steps.proofs.picking.picks_in_each.Goals as goal

pub returns-in-Ok : goal.returns-in-Ok
returns-in-Ok c = λ store.
    each_by (spans_of c.args.spans.now) (reference_of c.args.reference) (map chosen_of c.args.chosen.now) store c.in-Ok.place c.each_part.result c.in-Ok.ensures c.each_part.ensures

pub returns-in-Err : goal.returns-in-Err
returns-in-Err c = λ store. each_err (spans_of c.args.spans.now) (reference_of c.args.reference) (map chosen_of c.args.chosen.now) store c.in-Err.stop c.in-Err.ensures
