use Rattle.std.proofs.Common.{ap, sym, ◌∙◌, ℕ, Some, Option, map}
use Rattle.f3_tree.specs.declared.declaration.Shape.{Shape}
use Rattle.f3_tree.specs.declared.expression.Expression.{Expression}
use Rattle.f3_tree.specs.Declarations.{bounds_view, shape_view}
use Rattle.f3_kinds.specs.Things.{Context}
use Rattle.f3_typed_parts.specs.Known.{context_of}
use Rattle.f3_type_rules.specs.Shapes.{product, bounds_extent, elements}
use Rattle.f3_extents.specs.Counts.{counted}
use Rattle.f3_extents.proofs.Shaping.{map_map}
use Rattle.f3_extents.proofs.sizes.shape_elements.Goals as goal

pub returns-in-Explicit : goal.returns-in-Explicit
returns-in-Explicit c =
    let k : Context = context_of c.args.known.now c.args.at in
    let f : Option Expression × Expression → Option ℕ = λ b. bounds_extent k (bounds_view b) in
    c.product.ensures
    ∙ ap (λ xs. counted (product (Some 1) (map f xs))) c.deref.ensures.value
    ∙ ap (λ xs. counted (product (Some 1) xs)) (map_map (bounds_extent k) bounds_view c.in-Explicit.list.items)
    ∙ ap (λ (s : Shape). counted (elements k (Some (shape_view s)))) (sym c.in-Explicit.is)
