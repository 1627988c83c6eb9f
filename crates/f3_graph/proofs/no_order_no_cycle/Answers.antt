use Rattle.f3_graph.proofs.Standing.{no_cycle_of_units}
use Rattle.f3_graph.proofs.no_order_no_cycle.Goals as goal

pub returns : goal.returns
returns c = no_cycle_of_units
