use Rattle.std.proofs.Common.{◌≡◌, nat_eq, map, drop}
use Rattle.std.specs.Map.{lookup}
use Rattle.f3_tree.specs.Declarations.{entity_view, declaration_view}
use Rattle.f3_finals.specs.Inner.Candidates.{entry_of}
use Rattle.f3_finals.proofs.candidate.find_in.Given as goal

abbrev pub invariant-loop-entity : goal.invariant-loop-entity
invariant-loop-entity l =
    lookup (nat_eq l.symbol) (map (entry_of (declaration_view l.fn.declaration)) (map entity_view (drop l.entity-index l.entity-items)))
    ≡ lookup (nat_eq l.symbol) (map (entry_of (declaration_view l.fn.declaration)) (declaration_view l.fn.declaration).entities)
