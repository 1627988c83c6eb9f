use Rattle.std.proofs.Common.{◌≡◌, map, drop}
use Rattle.f3_tree.specs.Declarations.{entity_view, declaration_view}
use Rattle.f3_natures.specs.Known.{names_view}
use Rattle.f3_natures.specs.Entries.{firsts_after}
use Rattle.f3_natures.specs.Procedures.{described_entry}
use Rattle.f3_natures.proofs.procedures.add_declared.Given as goal

abbrev pub invariant-loop-entity : goal.invariant-loop-entity
invariant-loop-entity l =
    firsts_after l.found.entries (map (described_entry (names_view l.fn.names) l.fn.scope (declaration_view l.fn.declaration)) (map entity_view (drop l.entity-index l.entity-items)))
    ≡ firsts_after l.fn.found.entries (map (described_entry (names_view l.fn.names) l.fn.scope (declaration_view l.fn.declaration)) (declaration_view l.fn.declaration).entities)
