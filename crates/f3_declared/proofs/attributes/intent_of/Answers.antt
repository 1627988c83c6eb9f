use Rattle.f3_tree.specs.declared.declaration.Attribute.{Attribute}
use Rattle.f3_tree.specs.Declarations.{attribute_view}
use Rattle.f3_declared.proofs.Counting.{intent_more}
use Rattle.f3_declared.proofs.attributes.intent_of.Goals as goal

pub loop-attribute-preserved : goal.loop-attribute-preserved
loop-attribute-preserved c =
    intent_more (λ (a : Attribute). attribute_view a.kind) c.args.list.now c.loop-attribute.attribute-index c.attribute-item.result _ _
    c.loop-attribute-test.true c.attribute-item.is c.loop-attribute.invariant c.later_intent-last.ensures
