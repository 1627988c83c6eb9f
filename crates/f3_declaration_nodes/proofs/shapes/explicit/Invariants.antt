use Rattle.std.proofs.Common.{◌≡◌, ◌++◌, map, drop, Option}
use Rattle.f3_tree.specs.declared.expression.Expression.{Expression}
use Rattle.f3_tree.specs.Declarations.{bounds_view}
use Rattle.f3_typed_parts.specs.Known.{context_of}
use Rattle.f3_elaboration.specs.Declarations.{dimension}
use Rattle.f3_declaration_nodes.proofs.shapes.explicit.Given as goal

abbrev pub invariant-loop-bounds : goal.invariant-loop-bounds
invariant-loop-bounds l =
    l.found.items ++ map (λ (b : Option Expression × Expression). dimension (context_of l.known l.at) (bounds_view b)) (drop l.bounds-index l.list)
    ≡ map (λ (b : Option Expression × Expression). dimension (context_of l.known l.at) (bounds_view b)) l.list
