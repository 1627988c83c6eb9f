use Rattle.std.proofs.Common.{map, refl, rules, List}
use Rattle.std.specs.List.{flat_map}
use Rattle.f3_tree.specs.declared.declaration.Declaration.{Declaration}
use Rattle.f3_tree.specs.Declarations.{DeclarationTree, declaration_view, type_view}
use Rattle.f3_type_rules.specs.Names.{is_given, component}
use Rattle.f3_natures.specs.Known.{names_view}
use Rattle.f3_natures.proofs.First.{entries_step}
use Rattle.f3_natures.proofs.parts.components.Goals as goal

pub loop-declaration-preserved : goal.loop-declaration-preserved
loop-declaration-preserved c =
    let names = names_view c.args.names.now in
    let private = is_given (type_view c.args.definition.now).private in
    entries_step (λ (d : Declaration). map (component names c.args.scope private (declaration_view d)) (declaration_view d).entities)
    (λ (ds : List Declaration). flat_map (λ (d : DeclarationTree). map (component names c.args.scope private d) d.entities) (map declaration_view ds)) (λ d ds. refl)
    c.deref-declaration-items.result.now c.loop-declaration.declaration-index c.declaration-item.result c.loop-declaration.found.entries c.add_components.new.found.entries _
    c.loop-declaration-test.true c.declaration-item.is (search rules) c.loop-declaration.invariant
