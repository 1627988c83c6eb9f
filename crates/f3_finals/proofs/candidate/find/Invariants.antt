use Rattle.std.proofs.Common.{◌≡◌, nat_eq, map, drop}
use Rattle.std.specs.Map.{lookup}
use Rattle.f3_tree.specs.Declarations.{specification_view}
use Rattle.f3_type_rules.specs.Names.{entries}
use Rattle.f3_finals.proofs.candidate.find.Given as goal

abbrev pub invariant-loop-specification : goal.invariant-loop-specification
invariant-loop-specification l =
    lookup (nat_eq l.symbol) (entries (map specification_view (drop l.specification-index l.part))) ≡ lookup (nat_eq l.symbol) (entries (map specification_view l.part))
