use Rattle.std.proofs.Common.{◌≡◌, map, take, None}
use Rattle.std.specs.Option.{option_map}
use Rattle.std.specs.List.{flat_map}
use Rattle.f3_tree.specs.Declarations.{attribute_view, shape_view}
use Rattle.f3_tree.specs.declared.declaration.Attribute.{Attribute}
use Rattle.f3_type_rules.specs.Names.{dimension_in, last_of}
use Rattle.f3_declared.proofs.attributes.dimension_of.Given as goal

abbrev pub invariant-loop-attribute : goal.invariant-loop-attribute
invariant-loop-attribute l = option_map (λ s. shape_view s.now) l.last ≡ last_of None (flat_map dimension_in (map (λ (a : Attribute). attribute_view a.kind) (take l.attribute-index l.list)))
