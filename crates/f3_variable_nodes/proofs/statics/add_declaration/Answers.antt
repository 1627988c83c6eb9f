use Rattle.std.proofs.Common.{ℕ, ◌+◌, List, [], ◌∷◌, map, filter, refl, arith, rules}
use Rattle.f3_tree.specs.declared.declaration.Entity.{Entity}
use Rattle.f3_tree.specs.Declarations.{DeclarationTree, declaration_view, entity_view}
use Rattle.f3_elaboration.specs.Numbers.{declared_from, is_static_in}
use Rattle.f3_declaration_nodes.specs.Variables.{static_by, variable_at}
use Rattle.f3_variable_nodes.proofs.Walking.{picked, walked}
use Rattle.f3_variable_nodes.proofs.statics.add_declaration.Goals as goal

pub loop-entity-preserved : goal.loop-entity-preserved
loop-entity-preserved c =
    let d : DeclarationTree = declaration_view c.args.declaration.now in
    let u : ℕ = c.args.home.unit in
    let s : ℕ = c.args.home.scope in
    let f = static_by c.args.whole in
    let p = is_static_in c.args.home.kind in
    record {
      number = omega (arith, c.loop-entity.invariant.number);
      found = walked (λ (n : ℕ) (x : Entity). map f (filter p (variable_at n u s (d, entity_view x) ∷ [])))
          (λ (n : ℕ) (xs : List Entity). map f (filter p (declared_from u s n d (map entity_view xs)))) (λ (n : ℕ) (x : Entity). n + 1)
          (λ n x xs. picked f p (variable_at n u s (d, entity_view x) ∷ []) (declared_from u s (n + 1) d (map entity_view xs)))
          _ c.loop-entity.entity-index c.entity-item.result c.loop-entity.number _ _ _ _ c.loop-entity-test.true c.entity-item.is refl
          (search rules) c.loop-entity.invariant.found;
    }
