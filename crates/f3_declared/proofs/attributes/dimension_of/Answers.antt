use Rattle.f3_tree.specs.declared.declaration.Attribute.{Attribute}
use Rattle.f3_tree.specs.Declarations.{attribute_view}
use Rattle.f3_declared.proofs.Counting.{dimension_more}
use Rattle.f3_declared.proofs.attributes.dimension_of.Goals as goal

pub loop-attribute-preserved : goal.loop-attribute-preserved
loop-attribute-preserved c =
    dimension_more (λ (a : Attribute). attribute_view a.kind) c.args.list.now c.loop-attribute.attribute-index c.attribute-item.result _ _
    c.loop-attribute-test.true c.attribute-item.is c.loop-attribute.invariant c.later_dimension-last.ensures
