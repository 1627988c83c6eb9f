use Rattle.std.proofs.Common.{◌≡◌, ◌++◌, map, drop}
use Rattle.std.specs.List.{flat_map}
use Rattle.f3_tree.specs.Declarations.{DeclarationTree, declaration_view, type_view}
use Rattle.f3_type_rules.specs.Names.{is_given}
use Rattle.f3_elaboration.specs.DeclaredViews.{component_view}
use Rattle.f3_declaration_nodes.specs.Tables.{component_by, components_by}
use Rattle.f3_declaration_nodes.proofs.components.make_components.Given as goal

abbrev pub invariant-loop-declaration : goal.invariant-loop-declaration
invariant-loop-declaration l =
    map component_view l.found.items
    ++ flat_map (λ (d : DeclarationTree). map (component_by l.fn.whole l.fn.scope (is_given (type_view l.fn.definition).private) d) d.entities)
    (map declaration_view (drop l.declaration-index l.declaration-items))
    ≡ components_by l.fn.whole l.fn.scope (type_view l.fn.definition)
