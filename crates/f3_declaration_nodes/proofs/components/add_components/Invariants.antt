use Rattle.std.proofs.Common.{◌≡◌, ◌++◌, map, drop}
use Rattle.f3_tree.specs.Declarations.{declaration_view, entity_view}
use Rattle.f3_elaboration.specs.DeclaredViews.{component_view}
use Rattle.f3_declaration_nodes.specs.Tables.{component_by}
use Rattle.f3_declaration_nodes.proofs.components.add_components.Given as goal

abbrev pub invariant-loop-entity : goal.invariant-loop-entity
invariant-loop-entity l =
    map component_view l.found.items
    ++ map (component_by l.fn.whole l.fn.scope l.fn.default (declaration_view l.fn.declaration)) (map entity_view (drop l.entity-index l.entity-items))
    ≡ map component_view l.fn.found.items
    ++ map (component_by l.fn.whole l.fn.scope l.fn.default (declaration_view l.fn.declaration)) (declaration_view l.fn.declaration).entities
