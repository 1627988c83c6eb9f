use Rattle.std.proofs.Common.{ap, ◌∙◌, List}
use Rattle.std.specs.List.{flat_map}
use Rattle.f3_tree.specs.declared.declaration.Attribute.{Attribute}
use Rattle.f3_tree.specs.declared.declaration.Declaration.{Declaration}
use Rattle.f3_tree.specs.declared.declaration.Entity.{Entity}
use Rattle.f3_tree.specs.Declarations.{DeclarationTree, attribute_view, declaration_view, entity_view}
use Rattle.f3_typed_parts.specs.declared.known.Position.{Position}
use Rattle.f3_typed_parts.specs.Known.{context_of}
use Rattle.f3_typed_parts.specs.Noted.{noted}
use Rattle.f3_type_rules.specs.Declarations.{specifier_rows, entity_rows}
use Rattle.f3_type_rules.specs.Names.{attributes_of}
use Rattle.f3_type_rules.specs.Shapes.{dimension_rows}
use Rattle.f3_type_rules.specs.Walks.{context, Spot}
use Rattle.f3_declared.specs.Spots.{spot_in}
use Rattle.f3_extents.proofs.Shaping.{flat_map_map}
use Rattle.f3_specifications.proofs.Specifying.{specifier_here, dimensions_here, three_noted}
use Rattle.f3_specifications.proofs.components.component.Goals as goal

pub returns : goal.returns
returns c = λ s k h.
    let spot : Spot = spot_in s c.args.spot.now in
    let d : DeclarationTree = declaration_view c.args.declaration.now in
    three_noted c.args.first.now c.specifier.new.first c.dimensions.new.first _
    (specifier_rows spot k d.specifier) (flat_map (dimension_rows (context spot k)) (attributes_of d)) (flat_map (entity_rows spot d k) d.entities)
    (c.specifier.ensures ∙ ap (noted c.args.first.now) (specifier_here s c.args.growth.now k c.args.spot.now d.specifier h))
    (c.in_ok-dimensions.ensures
    ∙ ap (λ (xs : List Attribute). noted c.specifier.new.first (flat_map (λ (a : Attribute). dimension_rows (context_of c.args.growth.now.known c.position-at.result) (attribute_view a.kind)) xs)) c.deref.ensures.value
    ∙ ap (λ (p : Position). noted c.specifier.new.first (flat_map (λ (a : Attribute). dimension_rows (context_of c.args.growth.now.known p) (attribute_view a.kind)) c.args.declaration.now.attributes.items)) c.position-at.ensures
    ∙ ap (noted c.specifier.new.first) (dimensions_here s c.args.growth.now k c.args.spot.now c.args.declaration.now.attributes.items h))
    (c.in_ok-entities.ensures s k h
    ∙ ap (λ (x : Declaration). noted c.dimensions.new.first (flat_map (λ (e : Entity). entity_rows spot (declaration_view x) k (entity_view e)) c.deref-2.result.now)) c.read-reading.ensures.declaration
    ∙ ap (λ (xs : List Entity). noted c.dimensions.new.first (flat_map (λ (e : Entity). entity_rows spot d k (entity_view e)) xs)) c.deref-2.ensures.value
    ∙ ap (noted c.dimensions.new.first) (flat_map_map (entity_rows spot d k) entity_view c.args.declaration.now.entities.items))
