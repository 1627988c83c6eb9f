use Rattle.std.proofs.Common.{◌≡◌, map, drop}
use Rattle.f3_tree.specs.Declarations.{entity_view, declaration_view}
use Rattle.f3_type_rules.specs.Names.{component}
use Rattle.f3_natures.specs.Known.{names_view}
use Rattle.f3_natures.specs.Entries.{firsts_after}
use Rattle.f3_natures.proofs.parts.add_components.Given as goal

abbrev pub invariant-loop-entity : goal.invariant-loop-entity
invariant-loop-entity l =
    firsts_after l.found.entries (map (component (names_view l.fn.names) l.fn.scope l.fn.is_private (declaration_view l.fn.declaration)) (map entity_view (drop l.entity-index l.entity-items)))
    ≡ firsts_after l.fn.found.entries (map (component (names_view l.fn.names) l.fn.scope l.fn.is_private (declaration_view l.fn.declaration)) (declaration_view l.fn.declaration).entities)
