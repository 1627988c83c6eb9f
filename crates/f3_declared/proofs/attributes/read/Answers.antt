use Rattle.std.proofs.Common.{map, ap, ◌∙◌, List, None}
use Rattle.std.specs.List.{flat_map}
use Rattle.f3_scopes.specs.Scopes.{intent_of as intents}
use Rattle.f3_tree.specs.declared.declaration.Attribute.{Attribute}
use Rattle.f3_tree.specs.Declarations.{AttributeTree, attribute_view}
use Rattle.f3_type_rules.specs.Names.{dimension_in, last_of}
use Rattle.f3_declared.specs.Inner.Counting.{kinds_of}
use Rattle.f3_declared.proofs.Counting.{attributes_same}
use Rattle.f3_declared.proofs.attributes.read.Goals as goal

pub returns-clause-read : goal.returns-clause-read
returns-clause-read c =
    let as_kinds : List Attribute → List AttributeTree = map (λ (a : Attribute). attribute_view a.kind) in
    let same = attributes_same c.args.declaration.now.attributes.items in
    record {
      kinds = c.kinds_of.ensures ∙ ap (λ ys. kinds_of (as_kinds ys)) c.deref.ensures.value ∙ ap kinds_of same;
      dimension = c.dimension_of.ensures ∙ ap (λ ys. last_of None (flat_map dimension_in (as_kinds ys))) c.deref-2.ensures.value ∙ ap (λ ys. last_of None (flat_map dimension_in ys)) same;
      intent = c.intent_of.ensures ∙ ap (λ ys. last_of None (flat_map intents (as_kinds ys))) c.deref-3.ensures.value ∙ ap (λ ys. last_of None (flat_map intents ys)) same;
    }
