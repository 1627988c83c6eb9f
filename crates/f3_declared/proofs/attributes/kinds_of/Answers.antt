use Rattle.std.proofs.Common.{arith, map, ap, ◌∙◌, List}
use Rattle.std.proofs.lemmas.List.{take_all}
use Rattle.f3_tree.specs.declared.declaration.Attribute.{Attribute}
use Rattle.f3_tree.specs.Declarations.{attribute_view}
use Rattle.f3_declared.specs.Inner.Counting.{kinds_of}
use Rattle.f3_declared.proofs.Counting.{kinds_more}
use Rattle.f3_declared.proofs.attributes.kinds_of.Goals as goal

pub loop-attribute-preserved : goal.loop-attribute-preserved
loop-attribute-preserved c =
    kinds_more (λ (a : Attribute). attribute_view a.kind) c.args.list.now c.loop-attribute.attribute-index c.attribute-item.result c.loop-attribute.kinds c.with_kind-kinds.result
    c.loop-attribute-test.true c.attribute-item.is c.loop-attribute.invariant c.with_kind-kinds.ensures

pub returns : goal.returns
returns c =
    c.loop-attribute.invariant
    ∙ ap (λ (ys : List Attribute). kinds_of (map (λ (a : Attribute). attribute_view a.kind) ys)) (take_all c.loop-attribute.attribute-index c.args.list.now (omega (arith, c.loop-attribute-test.false)))
