use Rattle.std.proofs.Common.{◌≡◌, Some, Option, map, take}
use Rattle.f3_tree.specs.declared.expression.Expression.{Expression}
use Rattle.f3_tree.specs.Declarations.{bounds_view}
use Rattle.f3_typed_parts.specs.Known.{context_of}
use Rattle.f3_type_rules.specs.Shapes.{product, bounds_extent}
use Rattle.f3_extents.specs.Counts.{counted}
use Rattle.f3_extents.proofs.sizes.product.Given as goal

abbrev pub invariant-loop-bounds : goal.invariant-loop-bounds
invariant-loop-bounds l =
    l.elements ≡ counted (product (Some 1) (map (λ (b : Option Expression × Expression). bounds_extent (context_of l.known l.at) (bounds_view b)) (take l.bounds-index l.list)))
