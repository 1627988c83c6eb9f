use Rattle.std.proofs.Common.{ap, sym, ◌∙◌, Some, Bool, Option}
use Rattle.std.specs.List.{list_all}
use Rattle.f3_tree.specs.declared.declaration.Shape.{Shape}
use Rattle.f3_tree.specs.declared.expression.Expression.{Expression}
use Rattle.f3_tree.specs.Declarations.{Bounds, bounds_view, shape_view}
use Rattle.f3_kinds.specs.Things.{Context}
use Rattle.f3_typed_parts.specs.Known.{context_of}
use Rattle.f3_type_rules.specs.Shapes.{at_most, bounds_extent, are_dimensions_small}
use Rattle.f3_extents.proofs.Shaping.{all_map}
use Rattle.f3_extents.proofs.sizes.shape_small.Goals as goal

pub returns-in-Explicit : goal.returns-in-Explicit
returns-in-Explicit c =
    let k : Context = context_of c.args.known.now c.args.at in
    let f : Bounds → Bool = λ b. at_most 9223372036854775807 (bounds_extent k b) in
    c.are_small.ensures
    ∙ ap (list_all (λ (b : Option Expression × Expression). f (bounds_view b))) c.deref.ensures.value
    ∙ all_map f bounds_view c.in-Explicit.list.items
    ∙ ap (λ (s : Shape). are_dimensions_small k (Some (shape_view s))) (sym c.in-Explicit.is)
