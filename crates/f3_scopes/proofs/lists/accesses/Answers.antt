use Rattle.std.proofs.Common.{rules, refl, List, map}
use Rattle.std.specs.List.{flat_map}
use Rattle.f3_tree.specs.declared.declaration.Specification.{Specification}
use Rattle.f3_tree.specs.Declarations.{specification_view}
use Rattle.f3_scopes.specs.Outlines.{listed_view}
use Rattle.f3_scopes.specs.Scopes.{accesses_in}
use Rattle.f3_scopes.proofs.Longer.{grown_more}
use Rattle.f3_scopes.proofs.lists.accesses.Goals as goal

pub loop-specification-preserved : goal.loop-specification-preserved
loop-specification-preserved c =
    grown_more (λ (x : Specification). accesses_in (specification_view x)) (λ (xs : List Specification). flat_map accesses_in (map specification_view xs)) (λ x xs. refl)
    c.args.list.now c.loop-specification.specification-index c.specification-item.result (map listed_view c.loop-specification.found.items) (map listed_view c.add_access.new.found.items) _
    c.loop-specification-test.true c.specification-item.is (search rules) c.loop-specification.invariant
