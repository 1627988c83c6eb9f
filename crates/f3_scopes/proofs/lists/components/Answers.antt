use Rattle.std.proofs.Common.{rules, refl, List, map}
use Rattle.std.specs.List.{flat_map}
use Rattle.f3_tree.specs.declared.declaration.Declaration.{Declaration}
use Rattle.f3_tree.specs.Declarations.{declaration_view}
use Rattle.f3_scopes.specs.Outlines.{part_view}
use Rattle.f3_scopes.specs.Scopes.{components_of}
use Rattle.f3_scopes.proofs.Longer.{grown_more}
use Rattle.f3_scopes.proofs.lists.components.Goals as goal

pub loop-declaration-preserved : goal.loop-declaration-preserved
loop-declaration-preserved c =
    grown_more (λ (x : Declaration). components_of (declaration_view x)) (λ (xs : List Declaration). flat_map components_of (map declaration_view xs)) (λ x xs. refl)
    c.args.list.now c.loop-declaration.declaration-index c.declaration-item.result (map part_view c.loop-declaration.found.items) (map part_view c.add_components.new.found.items) _
    c.loop-declaration-test.true c.declaration-item.is (search rules) c.loop-declaration.invariant
