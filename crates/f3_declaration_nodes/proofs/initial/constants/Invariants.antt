use Rattle.std.proofs.Common.{◌≡◌, ◌++◌, map, drop}
use Rattle.f3_tree.specs.declared.expression.Expression.{Expression}
use Rattle.f3_tree.specs.Expressions.{expression_view}
use Rattle.f3_kinds.specs.Values.{converted, value_of}
use Rattle.f3_typed_parts.specs.Known.{context_of}
use Rattle.f3_elaboration.specs.Declarations.{constant_of}
use Rattle.f3_declaration_nodes.proofs.initial.constants.Given as goal

abbrev pub invariant-loop-e : goal.invariant-loop-e
invariant-loop-e l =
    l.found.items
    ++ map (λ (e : Expression). constant_of (converted l.data_type (value_of (context_of l.known l.at) (expression_view e)))) (drop l.e-index l.items)
    ≡ map (λ (e : Expression). constant_of (converted l.data_type (value_of (context_of l.known l.at) (expression_view e)))) l.items
