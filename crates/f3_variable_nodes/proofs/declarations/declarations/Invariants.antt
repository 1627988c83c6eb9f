use Rattle.std.proofs.Common.{◌≡◌, ℕ, nat_eq, map, drop}
use Rattle.std.specs.Option.{option_map}
use Rattle.std.specs.Map.{lookup}
use Rattle.indexmap.specs.IndexMap.{get}
use Rattle.f3_tree.specs.Declarations.{specification_view}
use Rattle.f3_type_rules.specs.Names.{entries, or_else}
use Rattle.f3_variable_nodes.specs.Dummies.{found_view}
use Rattle.f3_variable_nodes.proofs.declarations.declarations.Given as goal

abbrev pub invariant-loop-specification : goal.invariant-loop-specification
invariant-loop-specification l = (k : ℕ)
    → or_else (option_map found_view (get nat_eq l.found k)) (lookup (nat_eq k) (entries (map specification_view (drop l.specification-index l.fn.list))))
    ≡ lookup (nat_eq k) (entries (map specification_view l.fn.list))
