use Rattle.std.proofs.Common.{◌≡◌, map, take}
use Rattle.f3_tree.specs.Declarations.{attribute_view}
use Rattle.f3_tree.specs.declared.declaration.Attribute.{Attribute}
use Rattle.f3_declared.specs.Inner.Counting.{kinds_of}
use Rattle.f3_declared.proofs.attributes.kinds_of.Given as goal

abbrev pub invariant-loop-attribute : goal.invariant-loop-attribute
invariant-loop-attribute l = l.kinds ≡ kinds_of (map (λ (a : Attribute). attribute_view a.kind) (take l.attribute-index l.list))
