use Rattle.std.proofs.Common.{map, ap, sym, ◌∙◌, Some, Option}
use Rattle.f3_tree.specs.declared.declaration.Shape.{Shape}
use Rattle.f3_tree.specs.declared.expression.Expression.{Expression}
use Rattle.f3_tree.specs.Declarations.{bounds_view, shape_view}
use Rattle.f3_kinds.specs.Things.{Context}
use Rattle.f3_typed_parts.specs.Known.{context_of}
use Rattle.f3_elaboration.specs.Declarations.{dimension, dimensions}
use Rattle.f3_declaration_nodes.proofs.Lists.{map_map}
use Rattle.f3_declaration_nodes.proofs.shapes.shape_dimensions.Goals as goal

pub returns-in_ok-found-in-Explicit : goal.returns-in_ok-found-in-Explicit
returns-in_ok-found-in-Explicit c =
    let k : Context = context_of c.args.known.now c.args.at in
    c.in_ok-found-in-Explicit.ensures
    ∙ ap (map (λ (b : Option Expression × Expression). dimension k (bounds_view b))) c.deref.ensures.value
    ∙ map_map (dimension k) bounds_view c.in-Explicit.list.items
    ∙ ap (λ (s : Shape). dimensions k (Some (shape_view s))) (sym c.in-Explicit.is)
