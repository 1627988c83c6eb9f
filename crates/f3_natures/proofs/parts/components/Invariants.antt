use Rattle.std.proofs.Common.{◌≡◌, map, drop}
use Rattle.std.specs.List.{flat_map}
use Rattle.f3_tree.specs.Declarations.{DeclarationTree, declaration_view, type_view}
use Rattle.f3_type_rules.specs.Names.{is_given, component, components}
use Rattle.f3_natures.specs.Known.{names_view}
use Rattle.f3_natures.specs.Entries.{firsts, firsts_after}
use Rattle.f3_natures.proofs.parts.components.Given as goal

abbrev pub invariant-loop-declaration : goal.invariant-loop-declaration
invariant-loop-declaration l =
    firsts_after l.found.entries (flat_map (λ (d : DeclarationTree). map (component (names_view l.fn.names) l.fn.scope (is_given (type_view l.fn.definition).private) d) d.entities) (map declaration_view (drop l.declaration-index l.declaration-items)))
    ≡ firsts (components (names_view l.fn.names) l.fn.scope (type_view l.fn.definition))
