use Rattle.std.proofs.Common.{rules, refl, List, map}
use Rattle.std.specs.List.{flat_map}
use Rattle.f3_tree.specs.declared.declaration.Specification.{Specification}
use Rattle.f3_tree.specs.Declarations.{specification_view}
use Rattle.f3_scopes.specs.Scopes.{parts_view, types_in}
use Rattle.f3_scopes.proofs.Longer.{grown_more}
use Rattle.f3_scopes.proofs.lists.types.Goals as goal

pub loop-specification-preserved : goal.loop-specification-preserved
loop-specification-preserved c =
    grown_more (λ (x : Specification). types_in (specification_view x)) (λ (xs : List Specification). flat_map types_in (map specification_view xs)) (λ x xs. refl)
    c.args.list.now c.loop-specification.specification-index c.specification-item.result (map parts_view c.loop-specification.found.items) (map parts_view c.add_type.new.found.items) _
    c.loop-specification-test.true c.specification-item.is (search rules) c.loop-specification.invariant
