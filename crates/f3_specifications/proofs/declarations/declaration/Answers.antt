use Rattle.std.proofs.Common.{ap, ◌∙◌, List, map, subst}
use Rattle.std.specs.List.{flat_map}
use Rattle.f3_rules.specs.declared.breaks.Break.{Break}
use Rattle.f3_tree.specs.declared.declaration.Attribute.{Attribute}
use Rattle.f3_tree.specs.declared.declaration.Declaration.{Declaration}
use Rattle.f3_tree.specs.declared.declaration.Entity.{Entity}
use Rattle.f3_tree.specs.Declarations.{DeclarationTree, attribute_view, declaration_view, entity_view}
use Rattle.f3_typed_parts.specs.declared.known.Position.{Position}
use Rattle.f3_typed_parts.specs.Known.{context_of}
use Rattle.f3_typed_parts.specs.Noted.{noted}
use Rattle.f3_type_rules.specs.Declarations.{specifier_rows, entity_rows, entity_next}
use Rattle.f3_type_rules.specs.Names.{attributes_of}
use Rattle.f3_type_rules.specs.Shapes.{dimension_rows}
use Rattle.f3_type_rules.specs.Walks.{after, along, context, Spot}
use Rattle.f3_declared.specs.Spots.{spot_in}
use Rattle.f3_entities.specs.Growth.{Stands}
use Rattle.f3_specifications.proofs.Specifying.{specifier_here, dimensions_here, three_noted}
use Rattle.f3_specifications.proofs.declarations.declaration.Goals as goal

pub returns-clause-noted : goal.returns-clause-noted
returns-clause-noted c = λ s k h.
    let spot : Spot = spot_in s c.args.spot.now in
    let d : DeclarationTree = declaration_view c.args.declaration.now in
    let rows : DeclarationTree → List Entity → List Break = λ z xs. along (entity_rows spot z) (entity_next spot z) k (map entity_view xs) in
    three_noted c.args.first.now c.specifier.new.first c.dimensions.new.first _
    (specifier_rows spot k d.specifier) (flat_map (dimension_rows (context spot k)) (attributes_of d)) (along (entity_rows spot d) (entity_next spot d) k d.entities)
    (c.specifier.ensures ∙ ap (noted c.args.first.now) (specifier_here s c.args.growth.now k c.args.spot.now d.specifier h))
    (c.in_ok-dimensions.ensures
    ∙ ap (λ (xs : List Attribute). noted c.specifier.new.first (flat_map (λ (a : Attribute). dimension_rows (context_of c.args.growth.now.known c.position-at.result) (attribute_view a.kind)) xs)) c.deref.ensures.value
    ∙ ap (λ (p : Position). noted c.specifier.new.first (flat_map (λ (a : Attribute). dimension_rows (context_of c.args.growth.now.known p) (attribute_view a.kind)) c.args.declaration.now.attributes.items)) c.position-at.ensures
    ∙ ap (noted c.specifier.new.first) (dimensions_here s c.args.growth.now k c.args.spot.now c.args.declaration.now.attributes.items h))
    (c.in_ok-entities.ensures.noted s k h
    ∙ ap (λ (x : Declaration). noted c.dimensions.new.first (rows (declaration_view x) c.deref-2.result.now)) c.read-reading.ensures.declaration
    ∙ ap (λ (xs : List Entity). noted c.dimensions.new.first (rows d xs)) c.deref-2.ensures.value)

pub returns-clause-stands : goal.returns-clause-stands
returns-clause-stands c = λ s k h.
    let spot : Spot = spot_in s c.args.spot.now in
    let d : DeclarationTree = declaration_view c.args.declaration.now in
    subst (λ (xs : List Entity). Stands s c.entities.new.growth (after (entity_next spot d) k (map entity_view xs))) c.deref-2.ensures.value
    (subst (λ (x : Declaration). Stands s c.entities.new.growth (after (entity_next spot (declaration_view x)) k (map entity_view c.deref-2.result.now))) c.read-reading.ensures.declaration
    (c.in_ok-entities.ensures.stands s k h))
