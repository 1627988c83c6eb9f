use Rattle.std.proofs.Common.{List, [], ◌∷◌, map, refl, arith}
use Rattle.f3_tree.specs.declared.declaration.Entity.{Entity}
use Rattle.f3_tree.specs.Declarations.{DeclarationTree, declaration_view, entity_view}
use Rattle.f3_variable_nodes.specs.Dummies.{entry_of}
use Rattle.f3_variable_nodes.proofs.Entries.{looked_more, looked_all}
use Rattle.f3_variable_nodes.proofs.declarations.add_declaration.Goals as goal

pub loop-entity-preserved : goal.loop-entity-preserved
loop-entity-preserved c = λ k.
    let d : DeclarationTree = declaration_view c.args.declaration.now in
    looked_more k (λ (x : Entity). entry_of d (entity_view x) ∷ []) (λ (xs : List Entity). map (entry_of d) (map entity_view xs)) (λ x xs. refl)
    _ c.loop-entity.entity-index c.entity-item.result _ _ _ c.loop-entity-test.true c.entity-item.is (c.in_ok-add_name.ensures k) (c.loop-entity.invariant k)

pub returns : goal.returns
returns c = λ k.
    let d : DeclarationTree = declaration_view c.args.declaration.now in
    looked_all k (λ (xs : List Entity). map (entry_of d) (map entity_view xs)) _ c.loop-entity.entity-index _ _ (omega (arith, c.loop-entity-test.false)) refl (c.loop-entity.invariant k)
