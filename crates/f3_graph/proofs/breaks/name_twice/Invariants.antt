use Rattle.std.proofs.Common.{◌≡◌, [], drop}
use Rattle.f3_rules.specs.Least.{earlier_of, first_of}
use Rattle.f3_graph.specs.Inner.Passes.{pass, name_row, name_next}
use Rattle.f3_graph.specs.Inner.Views.{nodes_view}
use Rattle.f3_graph.proofs.breaks.name_twice.Given as goal

abbrev pub invariant-loop-unit : goal.invariant-loop-unit
invariant-loop-unit l = earlier_of l.first (first_of (pass name_row name_next l.seen.keys (nodes_view (drop l.unit-index l.units)))) ≡ first_of (pass name_row name_next [] (nodes_view l.units))
