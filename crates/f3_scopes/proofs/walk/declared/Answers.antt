use Rattle.std.proofs.Common.{rules, refl, List, map}
use Rattle.std.specs.List.{flat_map}
use Rattle.f3_tree.specs.declared.declaration.Specification.{Specification}
use Rattle.f3_tree.specs.Declarations.{specification_view}
use Rattle.f3_scopes.specs.Outlines.{own_view}
use Rattle.f3_scopes.specs.Scopes.{declared_in}
use Rattle.f3_scopes.proofs.Longer.{grown_more}
use Rattle.f3_scopes.proofs.walk.declared.Goals as goal

pub loop-specification-preserved : goal.loop-specification-preserved
loop-specification-preserved c =
    grown_more (λ (x : Specification). declared_in (specification_view x)) (λ (xs : List Specification). flat_map declared_in (map specification_view xs)) (λ x xs. refl)
    c.args.list.now c.loop-specification.specification-index c.specification-item.result (map own_view c.loop-specification.found.items) (map own_view c.add_declared.new.found.items) _
    c.loop-specification-test.true c.specification-item.is (search rules) c.loop-specification.invariant
