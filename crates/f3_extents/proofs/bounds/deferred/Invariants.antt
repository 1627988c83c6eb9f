use Rattle.std.proofs.Common.{◌≡◌, [], drop, Option}
use Rattle.std.specs.Option.{option_map}
use Rattle.std.specs.List.{flat_map}
use Rattle.f3_tree.specs.declared.expression.Expression.{Expression}
use Rattle.f3_tree.specs.Expressions.{expression_view}
use Rattle.f3_kinds.specs.Things.{map_or}
use Rattle.f3_typed_parts.specs.Known.{context_of}
use Rattle.f3_typed_parts.specs.Noted.{noted}
use Rattle.f3_type_rules.specs.Shapes.{bound_rows}
use Rattle.f3_extents.proofs.bounds.deferred.Given as goal

abbrev pub invariant-loop-e : goal.invariant-loop-e
invariant-loop-e l =
    noted l.first (flat_map (λ (x : Option Expression). map_or [] (bound_rows (context_of l.known l.at)) (option_map expression_view x)) (drop l.e-index l.list))
    ≡ noted l.fn.first (flat_map (λ (x : Option Expression). map_or [] (bound_rows (context_of l.known l.at)) (option_map expression_view x)) l.list)
