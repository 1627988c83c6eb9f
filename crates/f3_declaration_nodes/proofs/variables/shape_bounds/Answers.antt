use Rattle.std.proofs.Common.{map, ap, sym, ◌∙◌, Some, Option}
use Rattle.std.specs.Option.{option_map}
use Rattle.f3_tree.specs.declared.declaration.Shape.{Shape}
use Rattle.f3_tree.specs.declared.expression.Expression.{Expression}
use Rattle.f3_tree.specs.Expressions.{expression_view}
use Rattle.f3_tree.specs.Declarations.{shape_view}
use Rattle.f3_kinds.specs.Things.{Context}
use Rattle.f3_typed_parts.specs.Known.{context_of}
use Rattle.f3_elaboration.specs.Declarations.{lower_bound}
use Rattle.f3_elaboration.specs.Units.{lower_bounds}
use Rattle.f3_declaration_nodes.proofs.Lists.{map_map}
use Rattle.f3_declaration_nodes.proofs.variables.shape_bounds.Goals as goal

pub returns-in_ok-found-in-Deferred : goal.returns-in_ok-found-in-Deferred
returns-in_ok-found-in-Deferred c =
    let k : Context = context_of c.args.known.now c.args.at in
    c.in_ok-found-in-Deferred.ensures
    ∙ ap (map (λ (e : Option Expression). lower_bound k (option_map expression_view e))) c.deref.ensures.value
    ∙ map_map (lower_bound k) (λ (e : Option Expression). option_map expression_view e) c.in-Deferred.list.items
    ∙ ap (λ (s : Shape). lower_bounds k (Some (shape_view s))) (sym c.in-Deferred.is)
