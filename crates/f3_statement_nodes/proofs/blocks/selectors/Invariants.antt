use Rattle.std.proofs.Common.{◌≡◌, ◌++◌, map, drop}
use Rattle.f3_tree.specs.Statements.{association_view}
use Rattle.f3_elaboration.specs.Statements.{selector}
use Rattle.f3_elaboration.specs.Views.{selector_view}
use Rattle.f3_numbers.specs.Surroundings.{surroundings_of}
use Rattle.f3_statement_nodes.proofs.blocks.selectors.Given as goal

abbrev pub invariant-loop-association : goal.invariant-loop-association
invariant-loop-association l =
    map selector_view l.found.items ++ map (selector (surroundings_of l.from)) (map association_view (drop l.association-index l.list))
    ≡ map (selector (surroundings_of l.from)) (map association_view l.list)
