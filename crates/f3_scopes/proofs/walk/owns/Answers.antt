use Rattle.std.proofs.Common.{rules, refl, List, map}
use Rattle.f3_tree.specs.declared.declaration.Entity.{Entity}
use Rattle.f3_tree.specs.Declarations.{entity_view, placed_view}
use Rattle.f3_scopes.specs.Outlines.{own_view}
use Rattle.f3_scopes.specs.Scopes.{own}
use Rattle.f3_scopes.proofs.Longer.{pushed_more}
use Rattle.f3_scopes.proofs.walk.owns.Goals as goal

pub loop-entity-preserved : goal.loop-entity-preserved
loop-entity-preserved c =
    pushed_more own_view (λ (x : Entity). own (map placed_view c.args.declaration.now.attributes.items) (entity_view x)) (λ (xs : List Entity). map (own (map placed_view c.args.declaration.now.attributes.items)) (map entity_view xs)) (λ x xs. refl)
    c.deref-entity-items.result.now c.loop-entity.entity-index c.entity-item.result c.loop-entity.found.items c.push.new.self.items c.in_ok-declared.declared _
    c.loop-entity-test.true c.entity-item.is (search rules) (search rules) c.loop-entity.invariant
