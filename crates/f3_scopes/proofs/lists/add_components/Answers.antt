use Rattle.std.proofs.Common.{rules, refl, List, map}
use Rattle.f3_tree.specs.declared.declaration.Entity.{Entity}
use Rattle.f3_tree.specs.Declarations.{entity_view, placed_view}
use Rattle.f3_scopes.specs.Outlines.{part_view}
use Rattle.f3_scopes.specs.Scopes.{component}
use Rattle.f3_scopes.proofs.Longer.{pushed_more}
use Rattle.f3_scopes.proofs.lists.add_components.Goals as goal

pub loop-entity-preserved : goal.loop-entity-preserved
loop-entity-preserved c =
    pushed_more part_view (λ (x : Entity). component (map placed_view c.args.declaration.now.attributes.items) (entity_view x)) (λ (xs : List Entity). map (component (map placed_view c.args.declaration.now.attributes.items)) (map entity_view xs)) (λ x xs. refl)
    c.deref-entity-items.result.now c.loop-entity.entity-index c.entity-item.result c.loop-entity.found.items c.push.new.self.items c.in_ok-one.one _
    c.loop-entity-test.true c.entity-item.is (search rules) (search rules) c.loop-entity.invariant
