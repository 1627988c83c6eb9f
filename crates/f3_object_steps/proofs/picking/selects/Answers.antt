use Rattle.std.proofs.Common.{map}
use Rattle.f3_data.specs.References.{reference_of}
use Rattle.f3_cells.specs.Cells.{chosen_of}
use Rattle.f3_object_steps.proofs.Picks.{selects_opened, selects_failed, selects_whole}
use Rattle.f3_object_steps.proofs.picking.selects.Goals as goal

pub returns-in-Ok : goal.returns-in-Ok
returns-in-Ok c = selects_opened c.args.is_opened (reference_of c.args.reference) (map chosen_of c.args.chosen.now) c.picks.result c.in-Ok.held c.args.store.now c.if-is_opened.true c.in-Ok.ensures (c.picks.ensures c.args.store.now)

pub returns-in-Err : goal.returns-in-Err
returns-in-Err c = selects_failed c.args.is_opened (reference_of c.args.reference) (map chosen_of c.args.chosen.now) c.in-Err.stop c.args.store.now c.if-is_opened.true c.in-Err.ensures

pub returns-else-is_opened : goal.returns-else-is_opened
returns-else-is_opened c = selects_whole c.args.is_opened c.args.reference (map chosen_of c.args.chosen.now) c.picks-else-is_opened.result c.args.store.now c.if-is_opened.false (c.picks-else-is_opened.ensures c.args.store.now)
