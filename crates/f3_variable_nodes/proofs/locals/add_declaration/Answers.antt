use Rattle.std.proofs.Common.{List, map, filter, rules, [], ◌∷◌}
use Rattle.f3_tree.specs.declared.declaration.Entity.{Entity}
use Rattle.f3_tree.specs.Declarations.{DeclarationTree, EntityTree, declaration_view, entity_view}
use Rattle.f3_declaration_nodes.specs.Tables.{declared_by}
use Rattle.f3_variable_nodes.specs.Headers.{symbols_of}
use Rattle.f3_variable_nodes.specs.Locals.{is_local_beside}
use Rattle.f3_variable_nodes.proofs.Walking.{grown, picked}
use Rattle.f3_variable_nodes.proofs.locals.add_declaration.Goals as goal

pub loop-entity-preserved : goal.loop-entity-preserved
loop-entity-preserved c =
    let d : DeclarationTree = declaration_view c.args.declaration.now in
    let f = declared_by c.args.whole c.args.home.unit c.args.home.scope in
    let p = is_local_beside (symbols_of c.args.home.names.now) in
    grown (λ (x : Entity). map f (filter p ((d, entity_view x) ∷ [])))
    (λ (xs : List Entity). map f (filter p (map (λ (x : EntityTree). (d, x)) (map entity_view xs))))
    (λ x xs. picked f p ((d, entity_view x) ∷ []) (map (λ (y : EntityTree). (d, y)) (map entity_view xs)))
    _ c.loop-entity.entity-index c.entity-item.result _ _ _ c.loop-entity-test.true c.entity-item.is
    (search rules) c.loop-entity.invariant
