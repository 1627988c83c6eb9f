use Rattle.std.proofs.Common.{ap, sym, ◌∙◌, [], Option, Some}
use Rattle.std.specs.Option.{option_map}
use Rattle.std.specs.List.{flat_map}
use Rattle.f3_tree.specs.declared.declaration.Shape.{Shape}
use Rattle.f3_tree.specs.declared.expression.Expression.{Expression}
use Rattle.f3_tree.specs.Expressions.{expression_view}
use Rattle.f3_tree.specs.Declarations.{bounds_view, shape_view}
use Rattle.f3_kinds.specs.Things.{map_or, Context}
use Rattle.f3_typed_parts.specs.Known.{context_of}
use Rattle.f3_typed_parts.specs.Noted.{noted}
use Rattle.f3_type_rules.specs.Shapes.{bound_rows, shape_rows}
use Rattle.f3_extents.specs.Inner.Bounds.{rows_of_bounds}
use Rattle.f3_extents.proofs.Shaping.{flat_map_map}
use Rattle.f3_extents.proofs.bounds.shape.Goals as goal

pub returns-in_ok-explicit-in-Explicit : goal.returns-in_ok-explicit-in-Explicit
returns-in_ok-explicit-in-Explicit c =
    let k : Context = context_of c.args.known.now c.args.at in
    c.in_ok-explicit-in-Explicit.ensures
    ∙ ap (λ xs. noted c.args.first.now (flat_map (λ b. rows_of_bounds k (bounds_view b)) xs)) c.deref.ensures.value
    ∙ ap (noted c.args.first.now) (flat_map_map (rows_of_bounds k) bounds_view c.in-Explicit.list.items)
    ∙ ap (λ (s : Shape). noted c.args.first.now (shape_rows k (Some (shape_view s)))) (sym c.in-Explicit.is)

pub returns-in_ok-deferred-in-Deferred : goal.returns-in_ok-deferred-in-Deferred
returns-in_ok-deferred-in-Deferred c =
    let k : Context = context_of c.args.known.now c.args.at in
    c.in_ok-deferred-in-Deferred.ensures
    ∙ ap (λ xs. noted c.args.first.now (flat_map (λ (l : Option Expression). map_or [] (bound_rows k) (option_map expression_view l)) xs)) c.deref-in-Deferred.ensures.value
    ∙ ap (noted c.args.first.now) (flat_map_map (map_or [] (bound_rows k)) (λ (l : Option Expression). option_map expression_view l) c.in-Deferred.list.items)
    ∙ ap (λ (s : Shape). noted c.args.first.now (shape_rows k (Some (shape_view s)))) (sym c.in-Deferred.is)
