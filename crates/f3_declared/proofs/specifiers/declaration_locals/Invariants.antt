use Rattle.std.proofs.Common.{◌≡◌, drop}
use Rattle.std.specs.List.{flat_map}
use Rattle.f3_tree.specs.declared.declaration.Entity.{Entity}
use Rattle.f3_tree.specs.Declarations.{declaration_view, entity_view}
use Rattle.f3_typed_parts.specs.Noted.{noted}
use Rattle.f3_type_rules.specs.Declarations.{local_rows}
use Rattle.f3_declared.specs.Scenery.{scene_in}
use Rattle.f3_declared.specs.Spots.{spot_in}
use Rattle.f3_declared.proofs.specifiers.declaration_locals.Given as goal

abbrev pub invariant-loop-entity : goal.invariant-loop-entity
invariant-loop-entity l =
    noted l.first (flat_map (λ (x : Entity). local_rows (spot_in (scene_in l.known l.scenery) l.spot) (declaration_view l.declaration, entity_view x)) (drop l.entity-index l.list))
    ≡ noted l.fn.first (flat_map (λ (x : Entity). local_rows (spot_in (scene_in l.known l.scenery) l.spot) (declaration_view l.declaration, entity_view x)) l.list)
