use Rattle.std.proofs.Common.{◌≡◌, ◌++◌, map, filter, drop}
use Rattle.f3_tree.specs.Declarations.{EntityTree, declaration_view, entity_view}
use Rattle.f3_elaboration.specs.DeclaredViews.{declared_view}
use Rattle.f3_declaration_nodes.specs.Tables.{declared_by}
use Rattle.f3_variable_nodes.specs.Headers.{symbols_of}
use Rattle.f3_variable_nodes.specs.Locals.{is_local_beside}
use Rattle.f3_variable_nodes.proofs.locals.add_declaration.Given as goal

abbrev pub invariant-loop-entity : goal.invariant-loop-entity
invariant-loop-entity l =
    map declared_view l.found.items
    ++ map (declared_by l.fn.whole l.fn.home.unit l.fn.home.scope)
    (filter (is_local_beside (symbols_of l.fn.home.names.now)) (map (λ (x : EntityTree). (declaration_view l.fn.declaration, x)) (map entity_view (drop l.entity-index l.entity-items))))
    ≡ map declared_view l.fn.found.items
    ++ map (declared_by l.fn.whole l.fn.home.unit l.fn.home.scope)
    (filter (is_local_beside (symbols_of l.fn.home.names.now)) (map (λ (x : EntityTree). (declaration_view l.fn.declaration, x)) (declaration_view l.fn.declaration).entities))
