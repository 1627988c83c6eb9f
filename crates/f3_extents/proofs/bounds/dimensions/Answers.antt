use Rattle.std.proofs.Common.{refl, arith, rules}
use Rattle.std.specs.List.{flat_map}
use Rattle.f3_tree.specs.declared.declaration.Attribute.{Attribute}
use Rattle.f3_tree.specs.Declarations.{attribute_view}
use Rattle.f3_typed_parts.specs.Known.{context_of}
use Rattle.f3_typed_parts.proofs.Noting.{item_step, noted_done}
use Rattle.f3_type_rules.specs.Shapes.{dimension_rows}
use Rattle.f3_extents.proofs.bounds.dimensions.Goals as goal

pub loop-attribute-preserved : goal.loop-attribute-preserved
loop-attribute-preserved c =
    item_step (λ (a : Attribute). dimension_rows (context_of c.args.known.now c.args.at) (attribute_view a.kind))
    c.args.list.now c.loop-attribute.attribute-index c.attribute-item.result c.loop-attribute.first c.dimension.new.first _ c.loop-attribute-test.true c.attribute-item.is (search rules) c.loop-attribute.invariant

pub returns : goal.returns
returns c =
    noted_done (flat_map (λ (a : Attribute). dimension_rows (context_of c.args.known.now c.args.at) (attribute_view a.kind)))
    c.args.list.now c.loop-attribute.attribute-index c.loop-attribute.first _ (omega (arith, c.loop-attribute-test.false)) refl c.loop-attribute.invariant
