use Rattle.std.proofs.Common.{◌≡◌, map, take, None}
use Rattle.std.specs.List.{flat_map}
use Rattle.f3_scopes.specs.Scopes.{intent_of as intents}
use Rattle.f3_tree.specs.Declarations.{attribute_view}
use Rattle.f3_tree.specs.declared.declaration.Attribute.{Attribute}
use Rattle.f3_type_rules.specs.Names.{last_of}
use Rattle.f3_declared.proofs.attributes.intent_of.Given as goal

abbrev pub invariant-loop-attribute : goal.invariant-loop-attribute
invariant-loop-attribute l = l.last ≡ last_of None (flat_map intents (map (λ (a : Attribute). attribute_view a.kind) (take l.attribute-index l.list)))
