use Rattle.std.proofs.Common.{◌≡◌, false, drop}
use Rattle.f3_rules.specs.Least.{earlier_of, first_of}
use Rattle.f3_graph.specs.Inner.Passes.{pass, main_row, main_next}
use Rattle.f3_graph.proofs.Passing.{after}
use Rattle.f3_graph.specs.Inner.Views.{nodes_view}
use Rattle.f3_graph.proofs.breaks.main_programs.Given as goal

abbrev pub invariant-loop-unit : goal.invariant-loop-unit
invariant-loop-unit l =
    (earlier_of l.first (first_of (pass main_row main_next l.had_one (nodes_view (drop l.unit-index l.units)))) ≡ first_of (pass main_row main_next false (nodes_view l.units)))
    × (after main_next l.had_one (nodes_view (drop l.unit-index l.units)) ≡ after main_next false (nodes_view l.units))
