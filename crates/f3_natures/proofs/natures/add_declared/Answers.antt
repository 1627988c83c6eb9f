use Rattle.std.proofs.Common.{rules, refl, List, map}
use Rattle.f3_tree.specs.declared.declaration.Entity.{Entity}
use Rattle.f3_tree.specs.Declarations.{entity_view, declaration_view}
use Rattle.f3_type_rules.specs.Natures.{declared_nature}
use Rattle.f3_typed_parts.specs.Known.{nature_of}
use Rattle.f3_natures.specs.Known.{names_view}
use Rattle.f3_natures.proofs.Growing.{pushed_more}
use Rattle.f3_natures.proofs.natures.add_declared.Goals as goal

pub loop-entity-preserved : goal.loop-entity-preserved
loop-entity-preserved c =
    let made = declared_nature (names_view c.args.names.now) c.args.scope (declaration_view c.args.declaration.now) in
    pushed_more nature_of (λ (x : Entity). made (entity_view x)) (λ (xs : List Entity). map made (map entity_view xs)) (λ x xs. refl)
    c.deref-entity-items.result.now c.loop-entity.entity-index c.entity-item.result c.loop-entity.things.items c.push.new.self.items c.object_thing.result _
    c.loop-entity-test.true c.entity-item.is (search rules) (search rules) c.loop-entity.invariant
