use Rattle.std.proofs.Common.{◌≡◌, drop}
use Rattle.std.specs.List.{flat_map}
use Rattle.f3_tree.specs.declared.declaration.Attribute.{Attribute}
use Rattle.f3_tree.specs.Declarations.{attribute_view}
use Rattle.f3_typed_parts.specs.Known.{context_of}
use Rattle.f3_typed_parts.specs.Noted.{noted}
use Rattle.f3_type_rules.specs.Shapes.{dimension_rows}
use Rattle.f3_extents.proofs.bounds.dimensions.Given as goal

abbrev pub invariant-loop-attribute : goal.invariant-loop-attribute
invariant-loop-attribute l =
    noted l.first (flat_map (λ (a : Attribute). dimension_rows (context_of l.known l.at) (attribute_view a.kind)) (drop l.attribute-index l.list))
    ≡ noted l.fn.first (flat_map (λ (a : Attribute). dimension_rows (context_of l.known l.at) (attribute_view a.kind)) l.list)
