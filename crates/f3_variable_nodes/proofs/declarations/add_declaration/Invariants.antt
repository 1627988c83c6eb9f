use Rattle.std.proofs.Common.{◌≡◌, ℕ, nat_eq, map, drop}
use Rattle.std.specs.Option.{option_map}
use Rattle.std.specs.Map.{lookup}
use Rattle.indexmap.specs.IndexMap.{get}
use Rattle.f3_tree.specs.Declarations.{declaration_view, entity_view}
use Rattle.f3_type_rules.specs.Names.{or_else}
use Rattle.f3_variable_nodes.specs.Dummies.{entry_of, found_view}
use Rattle.f3_variable_nodes.proofs.declarations.add_declaration.Given as goal

abbrev pub invariant-loop-entity : goal.invariant-loop-entity
invariant-loop-entity l = (k : ℕ)
    → or_else (option_map found_view (get nat_eq l.found k)) (lookup (nat_eq k) (map (entry_of (declaration_view l.fn.declaration)) (map entity_view (drop l.entity-index l.entity-items))))
    ≡ or_else (option_map found_view (get nat_eq l.fn.found k)) (lookup (nat_eq k) (map (entry_of (declaration_view l.fn.declaration)) (declaration_view l.fn.declaration).entities))
