use Rattle.std.proofs.Common.{◌≡◌, ◌++◌, map, drop}
use Rattle.f3_tree.specs.Statements.{case_view}
use Rattle.f3_typed_parts.specs.Known.{context_of}
use Rattle.f3_elaboration.specs.Statements.{case_range}
use Rattle.f3_construct_nodes.proofs.constructs.ranges.Given as goal

abbrev pub invariant-loop-written : goal.invariant-loop-written
invariant-loop-written l =
    l.found.items ++ map (case_range (context_of l.known l.at)) (map case_view (drop l.written-index l.values))
    ≡ map (case_range (context_of l.known l.at)) (map case_view l.values)
