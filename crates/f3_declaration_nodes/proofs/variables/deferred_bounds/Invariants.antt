use Rattle.std.proofs.Common.{◌≡◌, ◌++◌, map, drop, Option}
use Rattle.std.specs.Option.{option_map}
use Rattle.f3_tree.specs.declared.expression.Expression.{Expression}
use Rattle.f3_tree.specs.Expressions.{expression_view}
use Rattle.f3_typed_parts.specs.Known.{context_of}
use Rattle.f3_elaboration.specs.Declarations.{lower_bound}
use Rattle.f3_declaration_nodes.proofs.variables.deferred_bounds.Given as goal

abbrev pub invariant-loop-e : goal.invariant-loop-e
invariant-loop-e l =
    l.found.items ++ map (λ (e : Option Expression). lower_bound (context_of l.known l.at) (option_map expression_view e)) (drop l.e-index l.list)
    ≡ map (λ (e : Option Expression). lower_bound (context_of l.known l.at) (option_map expression_view e)) l.list
